-- What is counted of lines that are done one after the other.
use Rattle.std.proofs.Common.{
  ◌≡◌,
  ℕ,
  zero,
  suc,
  ◌+◌,
  ◌≤◌,
  false,
  List,
  [],
  ◌∷◌,
  ◌++◌,
  drop,
  length,
  Option,
  Some,
  None,
  Result,
  Ok,
  Err,
  append_assoc,
  codes,
  decimal,
  refl,
  sym,
  ap,
  ap₂,
  ◌∙◌,
  subst,
  arith,
}
use Rattle.std.specs.Prelude.{slice_get}
use Rattle.std.proofs.lemmas.List.{drop_all, length-append}
use Rattle.std.proofs.lemmas.Option.{none-some, same_Some}
use Rattle.std.proofs.lemmas.List.Sums.{sum-map, sum_by-append, sum_by-cons}
use Rattle.rd_base.specs.declared.peers.Peer.{Peer}
use Rattle.line_model.specs.declared.lines.Reason.{Reason}
use Rattle.line_model.specs.Texts.{lines_of}
use Rattle.journal_model.specs.declared.rows.Row.{Row}
use Rattle.journal_model.specs.declared.steps.Step.{Step}
use Rattle.journal_model.specs.Rows.{row}
use Rattle.trace_model.specs.Made.{datagrams, octets_sent}
use Rattle.trace_model.specs.Output.{last_line}
use Rattle.trace_replay.specs.declared.machine.Machine.{Machine}
use Rattle.trace_replay.specs.declared.made.Count.{Count}
use Rattle.trace_replay.specs.declared.troubles.Trouble.{Trouble}
use Rattle.trace_replay.specs.declared.troubles.Trouble.TheVariants as trouble
use Rattle.trace_replay.specs.Fields.{cut}
use Rattle.trace_replay.specs.Journal.{Journal, after_line, goes_on, journal, rows_after}
use Rattle.trace_replay.specs.Machines.{PerformsFor}
use Rattle.trace_replay.specs.MadeRuns.{CountsLine, CountsLines, IsCountedAt, summary}
use Rattle.trace_replay.proofs.LineFeeds.{cut_pieces, lines_first, lines_last}

abbrev octets_in : Peer × List ℕ → ℕ
octets_in d = length d.1

octets_cons : (d : Peer × List ℕ) (sent : List (Peer × List ℕ))
    → octets_sent (d ∷ sent) ≡ length d.1 + octets_sent sent
octets_cons d sent =
    sum-map octets_in (d ∷ sent)
    ∙ sum_by-cons octets_in d sent
    ∙ ap (λ (n : ℕ). length d.1 + n) (sym (sum-map octets_in sent))

octets_append : (sent more : List (Peer × List ℕ))
    → octets_sent (sent ++ more) ≡ octets_sent sent + octets_sent more
octets_append sent more =
    sum-map octets_in (sent ++ more)
    ∙ sum_by-append octets_in sent more
    ∙ ap₂ (λ (m n : ℕ). m + n) (sym (sum-map octets_in sent)) (sym (sum-map octets_in more))

-- the octets of the datagram that comes next
pub octets_more : (index : ℕ) (sent : List (Peer × List ℕ)) (d : Peer × List ℕ)
    → slice_get sent index ≡ Some d
    → octets_sent (drop index sent) ≡ length d.1 + octets_sent (drop (suc index) sent)
octets_more index [] d e = cc
octets_more zero (x ∷ xs) d e =
    octets_cons x xs ∙ ap (λ (p : Peer × List ℕ). length p.1 + octets_sent xs) (same_Some x d e)
octets_more (suc n) (x ∷ xs) d e = octets_more n xs d e

-- with the octets counted so far
pub octets_next : (index : ℕ) (sent : List (Peer × List ℕ)) (d : Peer × List ℕ) (before octets : ℕ)
    → slice_get sent index ≡ Some d
    → octets ≡ before + length d.1
    → octets + octets_sent (drop (index + 1) sent) ≡ before + octets_sent (drop index sent)
octets_next index sent d before octets found added =
    let next : octets_sent (drop (suc index) sent) ≡ octets_sent (drop (index + 1) sent) =
    let one : suc index ≡ index + 1 = omega arith in
    ap (λ (n : ℕ). octets_sent (drop n sent)) one in
    let more = octets_more index sent d found in
    omega (arith, added, next, more)

-- no octet is left
pub octets_none : (index : ℕ) (sent : List (Peer × List ℕ))
    → length sent ≤ index
    → octets_sent (drop index sent) ≡ 0
octets_none index sent past = ap octets_sent (drop_all index sent past)

-- a line that was done is counted, with what it sent
pub line_counted : (workers : ℕ) (rows : List Row) (lines : ℕ) (said : Result (Option Step) Reason)
    (worker : ℕ) (before count : Count)
    → IsCountedAt workers rows lines before
    → PerformsFor workers rows said count.machine (Ok worker)
    → count.lines ≡ before.lines + 1
    → count.datagrams ≡ before.datagrams + length count.machine.sent
    → count.octets ≡ before.octets + octets_sent count.machine.sent
    → CountsLine workers lines (rows_after rows said) count (Ok tt)
unfolding row
line_counted workers rows lines (Err why) worker before count at done l d o = absurd done
line_counted workers rows lines (Ok None) worker before count at done l d o = record {
  machine = done.0;
  lines_are = l ∙ ap (λ (n : ℕ). n + 1) at.lines_are;
  datagrams_are = let none = ap length done.1 in omega (arith, d, at.datagrams_are, none);
  octets_are =
      let none : octets_sent count.machine.sent ≡ 0 = ap octets_sent done.1 in
      omega (arith, o, at.octets_are, none);
}
line_counted workers rows lines (Ok (Some s)) worker before count at done l d o = record {
  machine = done.0;
  lines_are = l ∙ ap (λ (n : ℕ). n + 1) at.lines_are;
  datagrams_are =
      let all = length-append (row rows s false).sent (datagrams rows) in
      let sent = ap length done.1 in omega (arith, d, at.datagrams_are, sent, all);
  octets_are =
      let all = octets_append (row rows s false).sent (datagrams rows) in
      let sent = ap octets_sent done.1 in omega (arith, o, at.octets_are, sent, all);
}

-- a line that was not done is bad, or memory ran out
pub line_uncounted : (workers : ℕ) (rows : List Row) (lines : ℕ)
    (said : Result (Option Step) Reason) (machine : Machine) (count : Count) (why : Trouble)
    → PerformsFor workers rows said machine (Err why)
    → CountsLine workers lines (rows_after rows said) count (Err why)
line_uncounted workers rows lines (Err is) machine count (trouble.Bad why) h = h
line_uncounted workers rows lines (Err is) machine count trouble.Starved h = tt
line_uncounted workers rows lines (Ok None) machine count (trouble.Bad why) h = h
line_uncounted workers rows lines (Ok (Some s)) machine count (trouble.Bad why) h = h
line_uncounted workers rows lines (Ok None) machine count trouble.Starved h = tt
line_uncounted workers rows lines (Ok (Some s)) machine count trouble.Starved h = tt

-- where memory runs out nothing is said of a line
pub line_starved : (workers lines : ℕ) (after : Result (List Row) Reason) (count : Count)
    → CountsLine workers lines after count (Err trouble.Starved)
line_starved workers lines (Ok more) count = tt
line_starved workers lines (Err why) count = tt

-- the first lines of a trace were done and counted: what is left goes on from the rows that they
-- made
pub record Led (workers : ℕ) (rows : List Row) (lines : ℕ) (trace rest : List ℕ) (count : Count) :
    Type 0 where
  pub more : List Row
  pub done : ℕ
  pub counted : IsCountedAt workers more done count
  pub same :
      journal workers rows (lines + 1) (lines_of trace)
      ≡ journal workers more (done + 1) (lines_of rest)
  pub number : done + length (lines_of rest) ≡ lines + length (lines_of trace)

-- no line was done yet
pub led_none : (workers : ℕ) (rows : List Row) (lines : ℕ) (trace : List ℕ) (count : Count)
    → IsCountedAt workers rows lines count
    → Led workers rows lines trace trace count
led_none workers rows lines trace count at = record {
  more = rows;
  done = lines;
  counted = at;
  same = refl;
  number = refl;
}

-- the first line of what is left
pub first_line : (rest line more : List ℕ)
    → cut 10 rest ≡ Some (line, more)
    → lines_of rest ≡ line ∷ lines_of more
first_line rest line more e =
    let p = cut_pieces 10 rest line more e in
    ap lines_of p.whole ∙ lines_first line more p.no_separator

-- a line more was done
pub led_more : (workers : ℕ) (rows : List Row) (lines : ℕ) (trace rest line more : List ℕ)
    (before count : Count)
    → (led : Led workers rows lines trace rest before)
    → cut 10 rest ≡ Some (line, more)
    → CountsLine workers led.done (after_line workers led.more line) count (Ok tt)
    → Led workers rows lines trace more count
led_more workers rows lines trace rest line more before count led e h =
    by (after_line workers led.more line) refl h
  where
    texts : lines_of rest ≡ line ∷ lines_of more
    texts = first_line rest line more e

    by : (after : Result (List Row) Reason)
        → after_line workers led.more line ≡ after
        → CountsLine workers led.done after count (Ok tt)
        → Led workers rows lines trace more count
    by (Err why) a h = absurd h
    by (Ok next) a h = record {
      more = next;
      done = led.done + 1;
      counted = h;
      same =
          led.same
          ∙ ap (journal workers led.more (led.done + 1)) texts
          ∙ ap (λ (r : Result (List Row) Reason).
          goes_on r led.more (led.done + 1)
          (λ rows. journal workers rows (led.done + 1 + 1) (lines_of more))) a;
      number = let n = ap length texts in let number = led.number in omega (arith, n, number);
    }

-- a line was not done: the trace is not done
pub led_stopped : (workers : ℕ) (rows : List Row) (lines whole : ℕ) (trace rest line : List ℕ)
    (others : List (List ℕ)) (before count : Count) (why : Trouble)
    → (led : Led workers rows lines trace rest before)
    → lines_of rest ≡ line ∷ others
    → CountsLine workers led.done (after_line workers led.more line) count (Err why)
    → CountsLines workers whole (journal workers rows (lines + 1) (lines_of trace)) count (Err why)
led_stopped workers rows lines whole trace rest line others before count trouble.Starved led texts
    h =
    tt
led_stopped workers rows lines whole trace rest line others before count (trouble.Bad why) led texts
    h =
    by (after_line workers led.more line) refl h
  where
    by : (after : Result (List Row) Reason)
        → after_line workers led.more line ≡ after
        → CountsLine workers led.done after count (Err (trouble.Bad why))
        → (journal workers rows (lines + 1) (lines_of trace)).bad ≡ None → ⊥
    by (Ok next) a h none = absurd h
    by (Err is) a h none =
        let bad :
        (journal workers rows (lines + 1) (lines_of trace)).bad
        ≡ Some (record { line = led.done + 1; why = is }) =
        ap (λ (j : Journal). j.bad) (led.same ∙ ap (journal workers led.more (led.done + 1)) texts
        ∙ ap (λ (r : Result (List Row) Reason). goes_on r led.more (led.done + 1) (λ rows. journal
        workers rows (led.done + 1 + 1) others)) a) in
        none-some _ (sym none ∙ bad)

-- all lines were done
pub led_all : (workers : ℕ) (rows : List Row) (lines : ℕ) (trace : List ℕ) (count : Count)
    → Led workers rows lines trace [] count
    → CountsLines workers (lines + length (lines_of trace))
    (journal workers rows (lines + 1) (lines_of trace)) count (Ok tt)
unfolding lines_of
led_all workers rows lines trace count led =
    let number : led.done ≡ lines + length (lines_of trace) =
    let n = led.number in omega (arith, n) in (
      ap (λ (j : Journal). j.bad) led.same,
      subst (λ (n : ℕ).
          IsCountedAt workers (journal workers rows (lines + 1) (lines_of trace)).rows n count)
          number
          (subst (λ (more : List Row). IsCountedAt workers more led.done count)
          (sym (ap (λ (j : Journal). j.rows) led.same)) led.counted),
    )

-- the last line, which lacks its line feed, was done or not
pub led_last : (workers : ℕ) (rows : List Row) (lines : ℕ) (trace rest : List ℕ)
    (before count : Count) (result : Result Unit Trouble)
    → (led : Led workers rows lines trace rest before)
    → cut 10 rest ≡ None
    → (rest ≡ [] → ⊥)
    → CountsLine workers led.done (after_line workers led.more rest) count result
    → CountsLines workers (lines + length (lines_of trace))
    (journal workers rows (lines + 1) (lines_of trace)) count result
led_last workers rows lines trace [] before count result led e some h = absurd (some refl)
led_last workers rows lines trace (b ∷ bs) before count (Err why) led e some h =
    led_stopped workers rows lines (lines + length (lines_of trace)) trace (b ∷ bs) (b ∷ bs) []
    before count why led (lines_last (b ∷ bs) e) h
led_last workers rows lines trace (b ∷ bs) before count (Ok done) led e some h =
    by (after_line workers led.more (b ∷ bs)) refl h
  where
    texts : lines_of (b ∷ bs) ≡ (b ∷ bs) ∷ []
    texts = lines_last (b ∷ bs) e

    by : (after : Result (List Row) Reason)
        → after_line workers led.more (b ∷ bs) ≡ after
        → CountsLine workers led.done after count (Ok done)
        → CountsLines workers (lines + length (lines_of trace))
        (journal workers rows (lines + 1) (lines_of trace)) count (Ok done)
    by (Err why) a h = absurd h
    by (Ok next) a h =
        let same :
        journal workers rows (lines + 1) (lines_of trace) ≡ record { rows = next; bad = None } =
        led.same ∙ ap (journal workers led.more (led.done + 1)) texts
        ∙ ap (λ (r : Result (List Row) Reason).
        goes_on r led.more (led.done + 1) (λ rows. record { rows = rows; bad = None })) a in
        let number : led.done + 1 ≡ lines + length (lines_of trace) =
        let n = ap length texts in let all = led.number in omega (arith, n, all) in (
          ap (λ (j : Journal). j.bad) same,
          subst (λ (n : ℕ).
              IsCountedAt workers (journal workers rows (lines + 1) (lines_of trace)).rows n
              count) number
              (subst (λ (more : List Row). IsCountedAt workers more (led.done + 1) count)
              (sym (ap (λ (j : Journal). j.rows) same)) h),
        )

-- three lines by their parts
parted : (a b c d e f feed last : List ℕ)
    → ((a ++ (b ++ feed)) ++ (c ++ (d ++ (e ++ (f ++ feed))))) ++ last
    ≡ ((a ++ b) ++ feed) ++ (((c ++ (d ++ (e ++ f))) ++ feed) ++ last)
parted a b c d e f feed last = simp append_assoc

-- the lines that say what was counted, and the line that ends the output
pub summary_is : (workers : ℕ) (rows : List Row) (lines : ℕ) (count : Count)
    → IsCountedAt workers rows lines count
    → (made sent end text : List ℕ)
    → made ≡ codes "made " ++ (decimal count.lines ++ codes "\n")
    → sent
    ≡ codes "sent "
    ++ (decimal count.datagrams ++ (codes " " ++ (decimal count.octets ++ codes "\n")))
    → end ≡ last_line rows → text ≡ (made ++ sent) ++ end → text ≡ summary lines rows
summary_is workers rows lines count at made sent end text m s e t =
    rw (t, m, s, e, at.lines_are, at.datagrams_are, at.octets_are)
    (parted (codes "made ") (decimal lines) (codes "sent ") (decimal (length (datagrams rows)))
    (codes " ") (decimal (octets_sent (datagrams rows))) (codes "\n") (last_line rows))
