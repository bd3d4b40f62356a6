use Rattle.std.proofs.Common.{arith}
use Rattle.rd_host.proofs.serve_all.Goals as goal

-- There is room for the ends alone.
pub serve_ends-requires-clause-ends : goal.serve_ends-requires-clause-ends
serve_ends-requires-clause-ends g c κs within =
    (c.requires.some, omega (arith, c.requires.few))

-- There are as many workers as the slice has items.
pub serve_jointly_above-requires-clause-posts : goal.serve_jointly_above-requires-clause-posts
serve_jointly_above-requires-clause-posts g c κs within =
    let all = c.deref_mut.ensures.len in
    let made = c.in_ok-posts.ensures in
    (omega (arith, all, made, c.requires.some), omega (arith, all, made, c.requires.few))
