use Rattle.serve_tests.proofs.seats.crowds.workers.Goals as goal

-- those that are left are of the hall
pub seats-preserved : goal.seats-preserved
seats-preserved c = c.take_first.ensures.others c.args.hall.now c.seats.invariant

-- and so is the one that was taken
pub invariant_of-push : goal.invariant_of-push
invariant_of-push c = record { of_hall = c.in-Some.ensures.hall c.args.hall.now c.seats.invariant }
