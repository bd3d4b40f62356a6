use Rattle.std.proofs.Common.{◌≡◌, ℕ, ◌<◌, List, Option, Some, length, ap, ◌∙◌, slice_get}
use Rattle.std.proofs.Common.{slice_index_or, arith}
use Rattle.rd_seat.specs.Seats.{SeatSeen, new_seat}
use Rattle.rd_server.proofs.service.EndLaws.{new_seats-get}
use Rattle.joint_server.specs.Posts.{seated}
use Rattle.joint_server.proofs.PostLaws.{seated-hall}
use Rattle.joint_server.proofs.halls.make_joint_hall.Goals as goal

pub returns-clause-seated : goal.returns-clause-seated
returns-clause-seated g c =
    let hall = c.in-Ok.hall in
    let number : ℕ = length c.args.posts.now in
    let given : (worker : ℕ) → worker < number
    → slice_get c.in-Ok.seats worker ≡ Some (new_seat hall worker) =
    λ worker lt. ap (λ (l : List SeatSeen). slice_get l worker) c.in-Ok.ensures.seats
    ∙ new_seats-get hall number worker lt in
    record {
      workers = c.in-Ok.ensures.workers;
      each = λ worker d lt. c.seat_posts.ensures worker d lt
          ∙ ap (λ (o : Option SeatSeen). seated (slice_index_or c.args.posts.now worker d) o)
          (given worker lt);
    }

pub returns-clause-hall : goal.returns-clause-hall
returns-clause-hall g c worker d lt =
    let hall = c.in-Ok.hall in
    let number : ℕ = length c.args.posts.now in
    let few : worker < number = omega (arith, lt, c.seat_posts.auto.posts) in
    let given : slice_get c.in-Ok.seats worker ≡ Some (new_seat hall worker) =
    ap (λ (l : List SeatSeen). slice_get l worker) c.in-Ok.ensures.seats
    ∙ new_seats-get hall number worker few in
    seated-hall (slice_index_or c.args.posts.now worker d)
    (slice_index_or c.seat_posts.new.posts worker d) (slice_get c.in-Ok.seats worker) hall
    worker (c.seat_posts.ensures worker d few) given
