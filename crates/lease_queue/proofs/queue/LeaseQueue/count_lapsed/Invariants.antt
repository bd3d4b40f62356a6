use Rattle.lease_queue.proofs.queue.LeaseQueue.count_lapsed.Given as goal

abbrev pub ghosts-count : goal.ghosts-count
ghosts-count a = record { name = a.blank.name; parts = a.blank.parts }
