use Rattle.std.proofs.Common.{Some, option_map, sym, ap, ◌∙◌}
use Rattle.rd_base.proofs.lemmas.Firsts.{find-at, find-nowhere}
use Rattle.event_model.specs.Uploads.{Upload}
use Rattle.transfers.proofs.uploading.body_at.Goals as goal

pub returns-in-Some : goal.returns-in-Some
returns-in-Some c test there =
    ap (λ octets. Some octets) c.body.ensures
    ∙ sym (ap (option_map (λ (u : Upload). u.body))
    (find-at test c.args.uploads.now.items c.in-Some.at c.index.result.now
    (sym there ∙ c.in-Some.is) c.index.ensures))

pub returns-in-None : goal.returns-in-None
returns-in-None c test there =
    sym (ap (option_map (λ (u : Upload). u.body))
    (find-nowhere test c.args.uploads.now.items (sym there ∙ c.in-None.is)))
