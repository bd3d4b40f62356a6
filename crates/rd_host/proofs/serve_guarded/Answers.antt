use denote.Exit.{no}
use denote.Param.Send.{arg_send, param_send}
use Rattle.hosting.proofs.Crossing.{counted_send, guarded_send}
use Rattle.rd_host.proofs.serve_guarded.Goals as goal

-- The links of the ends may cross threads: a guarded link over a counted one.
pub serve_all-requires-send-L : goal.serve_all-requires-send-L
serve_all-requires-send-L g c κs within =
    let bounds = c.type_bounds in
    param_send _ _ (arg_send _ no _ (guarded_send _ _ _ _ bounds.sync-R
    (counted_send _ _ _ _ bounds.send-L bounds.send-C bounds.send-W) bounds.send-C))
