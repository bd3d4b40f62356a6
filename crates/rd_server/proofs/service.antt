-- Laws of serving: SendLaws (what is sent, one after the other), CallLaws (calls of the seat),
-- TurnLaws (turns of a worker), ToldLaws (what its counts tell), JoinLaws (sums of workers),
-- EndLaws (the ends of a server), SumLaws (the sums of all ends), PlanReads and PlanLaws (the words
-- of the program).
pub mod SendLaws
pub mod CallLaws
pub mod TurnLaws
pub mod ToldLaws
pub mod JoinLaws
pub mod EndLaws
pub mod SumLaws
pub mod PlanReads
pub mod PlanLaws
