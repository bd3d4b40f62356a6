use Rattle.rd_bench.proofs.parties.parties.Goals as goal

-- those that are left are of the hall
pub seats-preserved : goal.seats-preserved
seats-preserved c = c.take_first.ensures.others c.args.hall.now c.seats.invariant

-- and so is the one that is moved out
pub invariant_of-party : goal.invariant_of-party
invariant_of-party c = record { of_hall = c.in-Some.ensures.hall c.args.hall.now c.seats.invariant }
