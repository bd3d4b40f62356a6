-- Through a link_filter pass those links that the query lists.
use Rattle.std.proofs.Common.{◌≡◌, Bool, ◌&&◌, List, Option, Some, None, ap, subst, sym, ◌∙◌}
use Rattle.rd_base.specs.declared.queries.Criterion.{Criterion}
use Rattle.rd_base.specs.declared.queries.Query.{Query}
use Rattle.rd_base.specs.declared.records.Item.{Item}
use Rattle.rd_base.specs.declared.records.Record.{Record}
use Rattle.record_model.specs.Discovery.{own_link_listed}
use Rattle.record_model.specs.ListingLines.{link_listed}
use Rattle.listing.specs.declared.sought.Sought.{Sought}
use Rattle.listing.specs.JudgedEndpoints.{AreJudged, AreJudgedOf}
use Rattle.listing.specs.ListedLinks.{listed_of}
use Rattle.listing.specs.LinkFilters.{IsSifted, meets}
use Rattle.listing.specs.SoughtLinks.{is_found_if_any}

-- the links of a registration
listed_sifted : (query : Query) (r : Record) (criteria rest : List Criterion)
    (answers left : List Bool) (first : Option Sought)
    → criteria ≡ query.criteria
    → IsSifted criteria answers first rest left
    → AreJudged r answers criteria
    → (item : Item)
    → (is_found_if_any first item && meets (Some r) rest item) ≡ link_listed query r item
unfolding link_listed
listed_sifted query r criteria rest answers left first same sifted judged item =
    sifted.listed r judged item ∙ ap (λ (cs : List Criterion). meets (Some r) cs item) same

-- those of the directory itself
own_sifted : (query : Query) (criteria : List Criterion)
    → criteria ≡ query.criteria
    → (item : Item)
    → meets None criteria item ≡ own_link_listed query item
unfolding own_link_listed
own_sifted query criteria same item = ap (λ (cs : List Criterion). meets None cs item) same

-- the parts of a link_filter for a registration
pub sieve_of_registration : (query : Query) (owner : Option Record) (r : Record)
    (criteria rest : List Criterion) (answers left : List Bool) (first : Option Sought)
    → owner ≡ Some r
    → criteria ≡ query.criteria
    → IsSifted criteria answers first rest left
    → AreJudgedOf owner answers query.criteria
    → AreJudgedOf owner left rest
    × ((item : Item)
    → (is_found_if_any first item && meets owner rest item) ≡ listed_of query owner item)
sieve_of_registration query owner r criteria rest answers left first is same sifted judged =
    let told : AreJudged r answers criteria =
    subst (λ (cs : List Criterion). AreJudged r answers cs) (sym same)
    (subst (λ (o : Option Record). AreJudgedOf o answers query.criteria) is judged) in
    subst (λ (o : Option Record).
    AreJudgedOf o left rest
    × ((item : Item)
    → (is_found_if_any first item && meets o rest item) ≡ listed_of query o item))
    (sym is)
    (sifted.judged r told, listed_sifted query r criteria rest answers left first same sifted told)

-- and for the directory itself
pub sieve_of_none : (query : Query) (owner : Option Record) (criteria : List Criterion)
    (answers : List Bool)
    → owner ≡ None
    → criteria ≡ query.criteria
    → AreJudgedOf owner answers criteria
    × ((item : Item) → meets owner criteria item ≡ listed_of query owner item)
sieve_of_none query owner criteria answers is same =
    subst (λ (o : Option Record).
    AreJudgedOf o answers criteria
    × ((item : Item) → meets o criteria item ≡ listed_of query o item)) (sym is)
    (tt, own_sifted query criteria same)
