use denote.Exit.{no}
use denote.Param.Send.{arg_send, arg_sync, param_send, param_sync}
use Rattle.std.proofs.Common.{◌≡◌, subst, sym, slice_index_or}
use Rattle.std.specs.Prelude.{IfNone, IfSome, None}
use Rattle.rd_seat.specs.Seats.{SeatSeen}
use Rattle.joint_server.specs.Posts.{PostServes, seat_of, seated}
use Rattle.joint_server.proofs.PostLaws.{as_left}
use Rattle.joint_server.proofs.ends.serve_all.Goals as goal

pub for_each_mut-requires-clause-accepts : goal.for_each_mut-requires-clause-accepts
for_each_mut-requires-clause-accepts g c κs within i p lt is =
    let bounds = c.type_bounds in (
      subst (λ q. IfSome (seat_of q) (λ (seat : SeatSeen). seat.hall ≡ c.args.hall.now)) (sym is)
          (c.requires.hall i p.now lt),
      (
        c.requires.turns,
        (
          param_send _ _ (arg_send _ no _ bounds.send-L),
          param_send _ _ (arg_send _ no _ bounds.send-E),
          param_send _ _ (arg_send _ no _ bounds.send-C),
          param_send _ _ (arg_send _ no _ bounds.send-E-In),
          param_send _ _ (arg_send _ no _ bounds.send-E-Out),
          param_sync _ _ (arg_sync _ no _ bounds.sync-R),
          param_sync _ _ (arg_sync _ no _ bounds.sync-G),
        ),
      ),
    )

pub returns-clause-served : goal.returns-clause-served
returns-clause-served g c i d lt =
    let at = (c.for_each_mut.ensures i d lt).1 in
    as_left (λ old new. IfSome (seat_of old) (λ (seat : SeatSeen).
    PostServes g.L.Link g.E.Entrance.seen g.C.Clock c.args.turns seat old new))
    at.argument.now (slice_index_or c.args.posts.now i d) at.after_call.now
    (slice_index_or c.for_each_mut.new.s i d) at.argument_is at.left at.call.1.0

pub returns-clause-unserved : goal.returns-clause-unserved
returns-clause-unserved g c i d lt =
    let at = (c.for_each_mut.ensures i d lt).1 in
    as_left (λ old new. IfNone (seat_of old) (new ≡ seated old None))
    at.argument.now (slice_index_or c.args.posts.now i d) at.after_call.now
    (slice_index_or c.for_each_mut.new.s i d) at.argument_is at.left at.call.1.1
