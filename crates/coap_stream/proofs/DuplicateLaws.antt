-- No request of a connection is taken for a duplicate, where nothing else uses its peer.
use Rattle.std.proofs.Common.{
  ◌≡◌,
  ◌⊎◌,
  inl,
  inr,
  ℕ,
  ◌+◌,
  ◌*◌,
  ◌/◌,
  ◌%◌,
  ◌<◌,
  ◌≤◌,
  ◌==◌,
  Bool,
  true,
  false,
  cond,
  List,
  [],
  ◌∷◌,
  ◌++◌,
  length,
  filter,
  Option,
  Some,
  None,
  Result,
  Ok,
  Err,
  option_and_then,
  refl,
  sym,
  ap,
  subst,
  ◌∙◌,
  append_assoc,
  eq-eqb,
  arith,
}
use Rattle.std.proofs.lemmas.Bool.{false≢true}
use Rattle.std.proofs.lemmas.List.{length-append}
use Rattle.std.proofs.lemmas.List.Elements.{All-nil, filter-append}
use Rattle.rd_base.specs.declared.peers.Peer.{Peer}
use Rattle.history_model.specs.Live.{IsFront}
use Rattle.message_model.specs.declared.messages.Unread.{Unread}
use Rattle.message_model.specs.declared.messages.Unread.TheVariants as unread
use Rattle.message_model.specs.Message.{Message}
use Rattle.message_model.specs.Reading.{
  Read,
  Header,
  Tail,
  header_of,
  header_at,
  bytes_at,
  tail_at,
  is_bad_header,
  message_of,
  body_at,
  reading,
}
use Rattle.message_model.specs.Spelling.{
  version,
  kind_number,
  header_spelling,
  options_spelling,
  payload_spelling,
  spelling,
}
use Rattle.message_model.proofs.MessageLaws.{body_ok}
use Rattle.event_model.specs.declared.notes.Note.{Note}
use Rattle.event_model.specs.declared.notes.Note.TheVariants as note
use Rattle.event_model.specs.Events.{Event}
use Rattle.event_model.specs.KeptAnswers.{Answer}
use Rattle.event_model.specs.Repeats.{repeated}
use Rattle.journal_model.specs.declared.rows.Row.{Row}
use Rattle.journal_model.specs.declared.steps.Step.{Step}
use Rattle.journal_model.specs.declared.steps.StepKind.{StepKind}
use Rattle.journal_model.specs.declared.steps.StepKind.TheVariants as step
use Rattle.journal_model.specs.Journal.{events, entries}
use Rattle.journal_model.specs.Looks.{held_after}
use Rattle.journal_model.specs.Machine.{Job, write_job, keep_job, job_after}
use Rattle.journal_model.specs.Rows.{row}
use Rattle.journal_model.specs.PlacedRows.{Within, admits}
use Rattle.journal_model.specs.Seats.{Seat, MakesRow, LooksFrom, rows_of}
use Rattle.journal_model.proofs.EventRows.{within_more}
use Rattle.rd_seat.specs.Seats.{SeatSeen, seat_of}
use Rattle.rd_seat.specs.Chains.{Chain}
use Rattle.rd_seat.specs.Calls.{IsLeftBy, job_kept}
use Rattle.rd_seat.specs.Callers.{DoesJob, TicksWhere}
use Rattle.rd_seat.proofs.CallLaws.{any_row}
use Rattle.coap_stream.specs.declared.purposes.Meant.{Meant}
use Rattle.coap_stream.specs.declared.purposes.Meant.TheVariants as meant
use Rattle.coap_stream.specs.declared.refusing.Unasked.{Unasked}
use Rattle.coap_stream.specs.declared.talked.TalkFault.{TalkFault}
use Rattle.coap_stream.specs.declared.talked.Talked.{Talked}
use Rattle.coap_stream.specs.Requests.{meant_by, heard_as, unasked_of, number_asked}
use Rattle.coap_stream.specs.Calls.{Call, Does}
use Rattle.coap_stream.specs.Talks.{
  Exchange,
  Asks,
  AnswersAs,
  AnswersRequest,
  AreAnswered,
  asked_as,
  asked_of,
  calls_of,
  size_of_all,
}
use Rattle.coap_stream.specs.declared.lines.Line.{Line}
use Rattle.coap_stream.specs.declared.lines.Manner.{Manner}
use Rattle.coap_stream.specs.Manners.{sized_by, with_block, block_wanted, is_due}
use Rattle.coap_stream.specs.Endings.{TalkSeen, TalksOver}
use Rattle.coap_stream.specs.Duplicates.{IsOfConnection, HasPeerAlone, AreNew}
use Rattle.coap_stream.proofs.AskedLaws.{asked_most}
use Rattle.coap_stream.proofs.DuplicateRows.{
  within_cases,
  within_fewer,
  Admission,
  row_admission,
  AdmittedNear,
  duplicates,
}

-- ---- the Message ID of a request

-- What is read after a header has its Message ID.
body_mid : (h : Header) (bytes : List ℕ) (m : Message) → body_at h bytes ≡ Some m
    → m.mid ≡ h.mid
unfolding body_at
body_mid h bytes m e = by (is_bad_header h bytes) e
  where
    tail : (token : List ℕ) (o : Option Tail)
        → option_and_then (λ t. Some (message_of h token t)) o ≡ Some m
        → m.mid ≡ h.mid
    tail token None g = absurd (let no : None ≡ Some m = g in cc)
    tail token (Some t) g = let same : message_of h token t ≡ m = cc in
        ap (λ (x : Message). x.mid) (sym same)

    token : (o : Read (List ℕ))
        → option_and_then (λ t. option_and_then (λ u. Some (message_of h t.0 u)) (tail_at 0 t.1)) o
        ≡ Some m
        → m.mid ≡ h.mid
    token None g = absurd (let no : None ≡ Some m = g in cc)
    token (Some t) g = tail t.0 (tail_at 0 t.1) g

    by : (b : Bool)
        → cond b None
        (option_and_then (λ t. option_and_then (λ u. Some (message_of h t.0 u)) (tail_at 0 t.1))
        (bytes_at h.token_length bytes))
        ≡ Some m
        → m.mid ≡ h.mid
    by true g = absurd (let no : None ≡ Some m = g in cc)
    by false g = token (bytes_at h.token_length bytes) g

-- What is read of a message's octets has its Message ID.
mid_read : (n m : Message) → n.mid < 65536 → reading (spelling n) ≡ Ok m → m.mid ≡ n.mid
unfolding reading header_at spelling header_spelling
mid_read n m small read =
    let r = body_ok (header_at (spelling n)) m read in
    by (first / 64 == version) r.0 r.1 (body_mid r.0.0 r.0.1 m r.2)
  where
    first : ℕ
    first = version * 64 + kind_number n.kind * 16 + length n.token

    h : Header
    h = header_of first n.code (n.mid / 256) (n.mid % 256)

    body : List ℕ
    body = n.token ++ (options_spelling 0 n.options ++ payload_spelling n.payload)

    pair_is : (x y : Header × List ℕ)
        → ◌≡◌ {A = Result (Header × List ℕ) Unread} (Ok x) (Ok y)
        → x ≡ y
    pair_is x y e = cc

    by : (b : Bool) (x : Header × List ℕ)
        → cond b (Ok (h, body)) (Err unread.Version) ≡ Ok x
        → m.mid ≡ x.0.mid
        → m.mid ≡ n.mid
    by true x e same =
        let header : h ≡ x.0 = ap (λ (y : Header × List ℕ). y.0) (pair_is (h, body) x e) in
        let number : n.mid / 256 * 256 + n.mid % 256 ≡ n.mid = omega arith in
        same ∙ ap (λ (y : Header). y.mid) (sym header) ∙ number
    by false x e same =
        absurd (let no : ◌≡◌ {A = Result (Header × List ℕ) Unread} (Err unread.Version) (Ok x) = e
        in cc)

-- ---- rows of the connection

-- What a journal admitted of the connection has Message IDs below a number, and none was taken for
-- a duplicate, where nothing else used the peer.
record Numbered (peer : Peer) (begun : List Row) (worker n : ℕ) (rows : List Row) : Type 0 where
  below : (before : List Row) (r : Row) (p : Peer) (mid : ℕ)
      → Within rows before r
      → IsOfConnection begun worker before r
      → admits p mid r ≡ true
      → mid < n
  new : AreNew peer begun worker rows

-- The same below a greater number.
numbered_more : (peer : Peer) (begun : List Row) (worker n k : ℕ) (rows : List Row)
    → n ≤ k → Numbered peer begun worker n rows → Numbered peer begun worker k rows
numbered_more peer begun worker n k rows less it = record {
  below = λ before r p mid within is admitted.
      let low = it.below before r p mid within is admitted in omega (arith, low, less);
  new = it.new;
}

-- When the connection begins, it has no row.
none_numbered : (peer : Peer) (begun : List Row) (worker : ℕ)
    → Numbered peer begun worker 0 begun
none_numbered peer begun worker = record {
  below = λ before r p mid within is admitted. absurd (none before r within is);
  new = λ alone before r m within is kind read. absurd (none before r within is);
}
  where
    none : (before : List Row) (r : Row) → Within begun before r
        → IsOfConnection begun worker before r → ⊥
    none before r within is =
        let few = within_fewer begun before r within in omega (arith, few, is.later)

-- A row within a journal is within one that goes on from it.
within_on : (further seen before : List Row) (r : Row) → Within seen before r
    → Within (further ++ seen) before r
within_on further seen before r within = record {
  later = further ++ within.later;
  whole = ap (λ (l : List Row). further ++ l) within.whole
      ∙ sym (append_assoc further within.later (r ∷ before));
}

-- Where other workers made the rows that follow, those of a worker are within the journal before.
own_within : (worker : ℕ) (further seen before : List Row) (r : Row)
    → rows_of worker (further ++ seen) ≡ rows_of worker seen
    → Within (further ++ seen) before r
    → r.step.worker ≡ worker
    → Within seen before r
unfolding rows_of
own_within worker further seen before r same within own =
    go further (none further same) within
  where
    mine : Row → Bool
    mine x = x.step.worker == worker

    none : (xs : List Row) → filter mine (xs ++ seen) ≡ filter mine seen
        → length (filter mine xs) ≡ 0
    none xs e =
        let whole :
        length (filter mine (xs ++ seen)) ≡ length (filter mine xs ++ filter mine seen) =
        ap length (filter-append mine xs seen) in
        let two = length-append (filter mine xs) (filter mine seen) in
        let lengths : length (filter mine (xs ++ seen)) ≡ length (filter mine seen) =
        ap length e in
        omega (arith, whole, two, lengths)

    first : (x : Row) (xs : List Row) → length (filter mine (x ∷ xs)) ≡ 0
        → (x.step.worker ≡ worker → ⊥) × (length (filter mine xs) ≡ 0)
    first x xs e = by (mine x) refl e
      where
        by : (b : Bool) → mine x ≡ b
            → length (cond b (x ∷ filter mine xs) (filter mine xs)) ≡ 0
            → (x.step.worker ≡ worker → ⊥) × (length (filter mine xs) ≡ 0)
        by true is g = absurd (omega (arith, g))
        by false is g = (
          λ it. false≢true (sym is ∙ eq-eqb x.step.worker worker it),
          g,
        )

    go : (xs : List Row) → length (filter mine xs) ≡ 0 → Within (xs ++ seen) before r
        → Within seen before r
    go [] e inside = inside
    go (x ∷ xs) e inside =
        by (within_cases x (xs ++ seen) before r inside) (go xs (first x xs e).1)
      where
        by : ((x ≡ r) × (xs ++ seen ≡ before)) ⊎ Within (xs ++ seen) before r
            → (Within (xs ++ seen) before r → Within seen before r)
            → Within seen before r
        by (inl it) more = absurd ((first x xs e).0 (ap (λ (y : Row). y.step.worker) it.0 ∙ own))
        by (inr it) more = more it

-- Rows of other workers change nothing.
numbered_found : (peer : Peer) (begun : List Row) (worker n : ℕ) (further seen : List Row)
    → rows_of worker (further ++ seen) ≡ rows_of worker seen
    → Numbered peer begun worker n seen
    → Numbered peer begun worker n (further ++ seen)
numbered_found peer begun worker n further seen same it = record {
  below = λ before r p mid within is admitted.
      it.below before r p mid
      (own_within worker further seen before r same within is.served_by) is admitted;
  new = λ alone before r m within is kind read.
      it.new
      (λ b earlier x other mid inside of behind admitted young.
      alone b earlier x other mid (within_on further seen b x inside) of behind admitted young)
      before r m (own_within worker further seen before r same within is.served_by) is kind read;
}

-- One row more: what it admits has a Message ID below the next number, and it is no duplicate.
numbered_row : (peer : Peer) (begun : List Row) (worker n k : ℕ) (found : List Row) (r : Row)
    → n ≤ k
    → Numbered peer begun worker n found
    → ((p : Peer) (mid : ℕ) → admits p mid r ≡ true → mid < k)
    → (HasPeerAlone peer begun worker (r ∷ found)
    → (m : Message)
    → IsOfConnection begun worker found r
    → r.step.kind ≡ step.Admit
    → reading r.step.datagram ≡ Ok m
    → repeated r.moment.0 r.step.peer m.mid (events found) ≡ None)
    → Numbered peer begun worker k (r ∷ found)
numbered_row peer begun worker n k found r less it low fresh = record {
  below = λ before x p mid within is admitted.
      below_by before x p mid is admitted (within_cases r found before x within);
  new = λ alone before x m within is kind read.
      new_by alone before x m is kind read (within_cases r found before x within);
}
  where
    below_by : (before : List Row) (x : Row) (p : Peer) (mid : ℕ)
        → IsOfConnection begun worker before x
        → admits p mid x ≡ true
        → ((r ≡ x) × (found ≡ before)) ⊎ Within found before x
        → mid < k
    below_by before x p mid is admitted (inl same) =
        low p mid (subst (λ (y : Row). admits p mid y ≡ true) (sym same.0) admitted)
    below_by before x p mid is admitted (inr inside) =
        let few = it.below before x p mid inside is admitted in omega (arith, few, less)

    new_by : HasPeerAlone peer begun worker (r ∷ found)
        → (before : List Row) (x : Row) (m : Message)
        → IsOfConnection begun worker before x
        → x.step.kind ≡ step.Admit
        → reading x.step.datagram ≡ Ok m
        → ((r ≡ x) × (found ≡ before)) ⊎ Within found before x
        → repeated x.moment.0 x.step.peer m.mid (events before) ≡ None
    new_by alone before x m is kind read (inl same) =
        subst (λ (rows : List Row). repeated x.moment.0 x.step.peer m.mid (events rows) ≡ None)
        same.1
        (subst (λ (y : Row). repeated y.moment.0 y.step.peer m.mid (events found) ≡ None) same.0
        (fresh alone m
        (subst (λ (rows : List Row). IsOfConnection begun worker rows r) (sym same.1)
        (subst (λ (y : Row). IsOfConnection begun worker before y) (sym same.0) is))
        (ap (λ (y : Row). y.step.kind) same.0 ∙ kind)
        (ap (λ (y : Row). reading y.step.datagram) same.0 ∙ read)))
    new_by alone before x m is kind read (inr inside) =
        it.new
        (λ b earlier y other mid at of behind admitted young.
        alone b earlier y other mid (within_more r found b y at) of behind admitted young)
        before x m inside is kind read

-- A row of a job or of a tick.
numbered_aside : (peer : Peer) (begun : List Row) (worker n : ℕ) (found : List Row) (s : Step)
    (starved : Bool)
    → (s.kind ≡ step.Admit → ⊥)
    → Numbered peer begun worker n found
    → Numbered peer begun worker n (row found s starved ∷ found)
unfolding row
numbered_aside peer begun worker n found s starved other it =
    numbered_row peer begun worker n n found (row found s starved) (omega arith) it
    (λ p mid admitted. absurd (other (row_admission found s starved p mid admitted).kind))
    (λ alone m is kind read. absurd (other kind))

-- The row of the next request.
numbered_asked : (peer : Peer) (begun : List Row) (worker n : ℕ) (found : List Row) (s : Step)
    (starved : Bool)
    → s.peer ≡ peer
    → ((m : Message) → reading s.datagram ≡ Ok m → m.mid ≡ n)
    → Numbered peer begun worker n found
    → Numbered peer begun worker (n + 1) (row found s starved ∷ found)
unfolding row
numbered_asked peer begun worker n found s starved own number it =
    numbered_row peer begun worker n (n + 1) found (row found s starved) (omega arith) it
    (λ p mid admitted. next p mid (row_admission found s starved p mid admitted)) fresh
  where
    next : (p : Peer) (mid : ℕ) → Admission (row found s starved) p mid → mid < n + 1
    next p mid a =
        let is = number a.message a.read in
        let same = a.number in
        omega (arith, is, same)

    fresh : HasPeerAlone peer begun worker (row found s starved ∷ found)
        → (m : Message)
        → IsOfConnection begun worker found (row found s starved)
        → s.kind ≡ step.Admit
        → reading s.datagram ≡ Ok m
        → repeated (row found s starved).moment.0 s.peer m.mid (events found) ≡ None
    fresh alone m is kind read =
        by (repeated (row found s starved).moment.0 s.peer m.mid (events found)) refl
      where
        by : (o : Option Event)
            → repeated (row found s starved).moment.0 s.peer m.mid (events found) ≡ o
            → o ≡ None
        by None e = refl
        by (Some first) e =
            let near : AdmittedNear (row found s starved).moment.0 s.peer m.mid found =
            duplicates (row found s starved).moment.0 s.peer m.mid found first e in
            let admitted : admits peer m.mid near.row ≡ true =
            subst (λ (p : Peer). admits p m.mid near.row ≡ true) own near.admitted in
            let of : IsOfConnection begun worker near.before near.row =
            alone found near.before (row found s starved) near.row m.mid
            (record { later = []; whole = refl }) is near.within admitted near.young in
            let low = it.below near.before near.row peer m.mid near.within of admitted in
            let at = number m read in
            absurd (omega (arith, low, at))

-- ---- calls of the seat

-- What a call did to the journal that its seat has seen: nothing, or it made a row.
record MadeRow (a b : SeatSeen) (c : Call) : Type 0 where
  further : List Row
  by_others : rows_of a.worker (further ++ a.seen) ≡ rows_of a.worker a.seen
  seen : b.seen ≡ row (further ++ a.seen) c.step c.starved ∷ (further ++ a.seen)

Made : SeatSeen → SeatSeen → Call → Type 0
Made a b c = (b.worker ≡ a.worker) × ((b.seen ≡ a.seen) ⊎ MadeRow a b c)

made : (a b : SeatSeen) (c : Call) → Does a c b → Made a b c
unfolding Made
made a b c (inl it) =
    let m : MakesRow (seat_of a [] []) c.step c.starved c.sent (seat_of b [] []) =
    any_row a b c.step c.starved c.sent it.made in (
      ap (λ (seat : Seat). seat.worker) m.seat,
      inr (record {
        further = m.goes_on.further;
        by_others = ap (rows_of a.worker) (sym m.goes_on.whole) ∙ m.by_others;
        seen = ap (λ (seat : Seat). seat.seen) m.seat
            ∙ ap (λ (rows : List Row). row rows c.step c.starved ∷ rows) m.goes_on.whole;
      }),
    )
made a b c (inr it) =
    let l : LooksFrom (seat_of a [] []) c.step c.starved c.sent it.held
    (seat_of b (b.met ∷ []) b.met) =
    it.looks [] [] (record { all_met = All-nil (λ f. IsFront f a.met); front_met = (a.met, refl) })
    in (
      ap (λ (seat : Seat). seat.worker) l.seat,
      inl (ap (λ (seat : Seat). seat.seen) l.seat),
    )

-- A seat of the connection.
record Stands (peer : Peer) (begun : List Row) (worker n : ℕ) (seat : SeatSeen) : Type 0 where
  is : seat.worker ≡ worker
  numbered : Numbered peer begun worker n seat.seen

after_call : (peer : Peer) (begun : List Row) (worker n k : ℕ) (a b : SeatSeen) (c : Call)
    → n ≤ k
    → Does a c b
    → ((found : List Row) → Numbered peer begun worker n found
    → Numbered peer begun worker k (row found c.step c.starved ∷ found))
    → Stands peer begun worker n a
    → Stands peer begun worker k b
unfolding Made
after_call peer begun worker n k a b c less does more it = record {
  is = (made a b c does).0 ∙ it.is;
  numbered = by (made a b c does).1;
}
  where
    by : (b.seen ≡ a.seen) ⊎ MadeRow a b c → Numbered peer begun worker k b.seen
    by (inl same) =
        subst (Numbered peer begun worker k) (sym same)
        (numbered_more peer begun worker n k a.seen less it.numbered)
    by (inr m) =
        subst (Numbered peer begun worker k) (sym m.seen)
        (more (m.further ++ a.seen)
        (numbered_found peer begun worker n m.further a.seen
        (subst (λ (w : ℕ). rows_of w (m.further ++ a.seen) ≡ rows_of w a.seen) it.is m.by_others)
        it.numbered))

-- A call that handles no datagram.
aside_call : (peer : Peer) (begun : List Row) (worker n : ℕ) (a b : SeatSeen) (c : Call)
    → Does a c b
    → (c.step.kind ≡ step.Admit → ⊥)
    → Stands peer begun worker n a
    → Stands peer begun worker n b
aside_call peer begun worker n a b c does other it =
    after_call peer begun worker n n a b c (omega arith) does
    (λ found old. numbered_aside peer begun worker n found c.step c.starved other old) it

-- A call that handles the next request.
asked_call : (peer : Peer) (begun : List Row) (worker n : ℕ) (a b : SeatSeen) (c : Call)
    → Does a c b
    → c.step.peer ≡ peer
    → ((m : Message) → reading c.step.datagram ≡ Ok m → m.mid ≡ n)
    → Stands peer begun worker n a
    → Stands peer begun worker (n + 1) b
asked_call peer begun worker n a b c does own number it =
    after_call peer begun worker n (n + 1) a b c (omega arith) does
    (λ found old. numbered_asked peer begun worker n found c.step c.starved own number old) it

-- ---- jobs

-- A job is none to handle a datagram.
write_aside : (notes : List Note) (r : Row) (before : List Row) (j : Job)
    → write_job notes r before ≡ Some j → j.kind ≡ step.Admit → ⊥
write_aside [] r before j e kind = absurd (let no : None ≡ Some j = e in cc)
write_aside (note.Admitted p mid ∷ notes) r before j e kind =
    let same : record
    { kind = step.Commit (length before); peer = r.step.peer; datagram = r.step.datagram }
    ≡ j = cc in
    let no : step.Commit (length before) ≡ step.Admit =
    ap (λ (x : Job). x.kind) same ∙ kind in absurd cc
write_aside (_ ∷ notes) r before j e kind = absurd (let no : None ≡ Some j = e in cc)

keep_aside : (held : Option Answer) (r : Row) (j : Job)
    → keep_job held r ≡ Some j → j.kind ≡ step.Admit → ⊥
keep_aside None r j e kind = absurd (let no : None ≡ Some j = e in cc)
keep_aside (Some found) r j e kind =
    let same : record
    { kind = step.Keep found.body found.tag; peer = r.step.peer; datagram = r.step.datagram }
    ≡ j = cc in
    let no : step.Keep found.body found.tag ≡ step.Admit =
    ap (λ (x : Job). x.kind) same ∙ kind in absurd cc

job_aside : (kind : StepKind) (r : Row) (before : List Row) (j : Job)
    → job_after kind r before None ≡ Some j → j.kind ≡ step.Admit → ⊥
job_aside step.Admit r before j e is = write_aside r.notes r before j e is
job_aside step.Look r before j e is =
    keep_aside (held_after r.starved (entries before) r.moment.0 (reading r.step.datagram)) r j e is
job_aside (step.Commit place) r before j e is = absurd (let no : None ≡ Some j = e in cc)
job_aside (step.Keep body tag) r before j e is = absurd (let no : None ≡ Some j = e in cc)
job_aside step.Tick r before j e is = absurd (let no : None ≡ Some j = e in cc)
job_aside (step.Begin first) r before j e is = absurd (let no : None ≡ Some j = e in cc)

kept_aside : (held : Option Answer) (s : Step) (j : Job)
    → Some j ≡ job_kept held s → j.kind ≡ step.Admit → ⊥
kept_aside None s j e is = absurd (let no : Some j ≡ None = e in cc)
kept_aside (Some found) s j e is =
    let same : j
    ≡ record { kind = step.Keep found.body found.tag; peer = s.peer; datagram = s.datagram } = cc
    in
    let no : step.Keep found.body found.tag ≡ step.Admit =
    ap (λ (x : Job). x.kind) (sym same) ∙ is in absurd cc

left_aside : (a b : SeatSeen) (c : Call) (j : Job) → Does a c b → c.left ≡ Some j
    → j.kind ≡ step.Admit → ⊥
left_aside a b c j (inr it) left is = kept_aside it.held c.step j (sym left ∙ it.left) is
left_aside a b c j (inl it) left is = by b.seen it.left
  where
    by : (rows : List Row) → IsLeftBy rows c.left → ⊥
    by [] l = l
    by (r ∷ before) l = job_aside r.step.kind r before j (sym l ∙ left) is

-- ---- the calls of an exchange

split : (a c : SeatSeen) (xs ys : List Call) → Chain Does a (ys ++ xs) c
    → (b : SeatSeen) × Chain Does a xs b × Chain Does b ys c
split a c xs [] chain = (c, chain, refl)
split a c xs (y ∷ ys) chain =
    let earlier = split a chain.0 xs ys chain.1 in
    (earlier.0, earlier.1, (chain.0, earlier.2, chain.2))

-- After the job of a request.
after_job : (peer : Peer) (begun : List Row) (worker n : ℕ) (a b : SeatSeen)
    (left : Option Job) (calls : List Call)
    → ((j : Job) → left ≡ Some j → j.kind ≡ step.Admit → ⊥)
    → DoesJob left calls
    → Chain Does a calls b
    → Stands peer begun worker n a
    → Stands peer begun worker n b
after_job peer begun worker n a b None calls other none chain it =
    subst (Stands peer begun worker n)
    (sym (subst (λ (l : List Call). Chain Does a l b) none chain)) it
after_job peer begun worker n a b (Some j) calls other done chain it =
    let one : Chain Does a (done.0 ∷ []) b =
    subst (λ (l : List Call). Chain Does a l b) done.1 chain in
    aside_call peer begun worker n a b done.0
    (subst (λ (s : SeatSeen). Does s done.0 b) one.1 one.2)
    (λ kind. other j refl (sym done.2.kind ∙ kind)) it

-- After the ticks that follow it.
after_ticks : (peer : Peer) (begun : List Row) (worker n : ℕ) (a b : SeatSeen) (due : Bool)
    (calls : List Call)
    → TicksWhere due calls
    → Chain Does a calls b
    → Stands peer begun worker n a
    → Stands peer begun worker n b
after_ticks peer begun worker n a b false calls none chain it =
    subst (Stands peer begun worker n)
    (sym (subst (λ (l : List Call). Chain Does a l b) none chain)) it
after_ticks peer begun worker n a b true calls ticks chain it =
    let one : Chain Does a (ticks.tick ∷ []) b =
    subst (λ (l : List Call). Chain Does a l b) ticks.alone chain in
    aside_call peer begun worker n a b ticks.tick
    (subst (λ (s : SeatSeen). Does s ticks.tick b) one.1 one.2)
    (λ kind. let no : step.Tick ≡ step.Admit = sym ticks.kind ∙ kind in absurd cc) it

-- A message that asks for blocks which fit has the Message ID of the one that was heard.
block_mid : (exponent : Option ℕ) (m : Message) → (with_block exponent m).mid ≡ m.mid
block_mid None m = refl
block_mid (Some exponent) m = refl

sized_mid : (manner : Manner) (most : ℕ) (m : Message) → (sized_by manner most m).mid ≡ m.mid
sized_mid manner most m = block_mid (block_wanted manner most m) m

-- After a request that the seat handled.
after_asked : (line : Line) (begun : List Row) (worker n most : ℕ) (a b : SeatSeen)
    (e : Exchange)
    → n < 65536
    → Asks line (n + 1) most (spelling (sized_by line.manner most (heard_as n e.message))) e
    → Chain Does a e.calls b
    → Stands line.peer begun worker n a
    → Stands line.peer begun worker (n + 1) b
after_asked line begun worker n most a b e few asks chain it =
    let peer : Peer = line.peer in
    let heard : Message = heard_as n e.message in
    let same : (sized_by line.manner most heard).mid ≡ n = sized_mid line.manner most heard in
    let ticked = split a b asks.heard asks.ticks
    (subst (λ (l : List Call). Chain Does a l b) asks.whole chain) in
    let worked = split a ticked.0 (asks.hears.hear ∷ []) asks.hears.job
    (subst (λ (l : List Call). Chain Does a l ticked.0) asks.hears.whole ticked.1) in
    let hears : Does a asks.hears.hear worked.0 =
    subst (λ (s : SeatSeen). Does s asks.hears.hear worked.0) worked.1.1 worked.1.2 in
    after_ticks peer begun worker (n + 1) ticked.0 b (is_due line.manner (n + 1)) asks.ticks
    asks.due
    ticked.2
    (after_job peer begun worker (n + 1) worked.0 ticked.0 asks.hears.hear.left asks.hears.job
    (λ j left kind. left_aside a worked.0 asks.hears.hear j hears left kind) asks.hears.done
    worked.2
    (asked_call peer begun worker n a worked.0 asks.hears.hear hears asks.hears.hearing.peer_of
    (λ m read. mid_read (sized_by line.manner most heard) m
    (subst (λ (k : ℕ). k < 65536) (sym same) few)
    (ap reading (sym asks.hears.hearing.datagram_of) ∙ read) ∙ same) it))

after_said : (peer : Peer) (begun : List Row) (worker n k : ℕ) (a b : SeatSeen) (e : Exchange)
    → n ≤ k
    → e.calls ≡ []
    → Chain Does a e.calls b
    → Stands peer begun worker n a
    → Stands peer begun worker k b
after_said peer begun worker n k a b e less none chain it =
    let same : b ≡ a = subst (λ (l : List Call). Chain Does a l b) none chain in
    subst (Stands peer begun worker k) (sym same)
    (record { is = it.is; numbered = numbered_more peer begun worker n k a.seen less it.numbered })

after_request : (line : Line) (begun : List Row) (worker n most : ℕ) (a b : SeatSeen)
    (e : Exchange) (why : Option Unasked)
    → n + number_asked why ≤ 65536
    → AnswersRequest line n most why e
    → Chain Does a e.calls b
    → Stands line.peer begun worker n a
    → Stands line.peer begun worker (n + number_asked why) b
after_request line begun worker n most a b e None few answers chain it =
    after_asked line begun worker n most a b e (omega (arith, few)) answers chain it
after_request line begun worker n most a b e (Some why) few answers chain it =
    after_said line.peer begun worker n (n + 0) a b e (omega arith) answers.calls chain it

after_message : (line : Line) (begun : List Row) (worker n most : ℕ) (a b : SeatSeen)
    (e : Exchange) (m : Meant)
    → n + asked_as m (unasked_of (heard_as n e.message)) ≤ 65536
    → AnswersAs line n most m e
    → Chain Does a e.calls b
    → Stands line.peer begun worker n a
    → Stands line.peer begun worker (n + asked_as m (unasked_of (heard_as n e.message))) b
after_message line begun worker n most a b e meant.Passed few answers chain it =
    after_said line.peer begun worker n (n + 0) a b e (omega arith) answers.calls chain it
after_message line begun worker n most a b e meant.Ping few answers chain it =
    after_said line.peer begun worker n (n + 0) a b e (omega arith) answers.calls chain it
after_message line begun worker n most a b e meant.Release few answers chain it =
    after_said line.peer begun worker n (n + 0) a b e (omega arith) answers.calls chain it
after_message line begun worker n most a b e meant.Abort few answers chain it =
    after_said line.peer begun worker n (n + 0) a b e (omega arith) answers.calls chain it
after_message line begun worker n most a b e meant.Request few answers chain it =
    after_request line begun worker n most a b e (unasked_of (heard_as n e.message)) few answers
    chain it

-- ---- a conversation

after_all : (line : Line) (es : List Exchange) (a b : SeatSeen) → AreAnswered line es
    → Chain Does a (calls_of es) b
    → Stands line.peer a.seen a.worker (asked_of es) b
after_all line [] a b answered chain =
    subst (Stands line.peer a.seen a.worker 0) (sym chain)
    (record { is = refl; numbered = none_numbered line.peer a.seen a.worker })
after_all line (e ∷ es) a b answered chain =
    let parts = split a b (calls_of es) e.calls chain in
    after_message line a.seen a.worker (asked_of es) (size_of_all es) parts.0 b e
    (meant_by e.message.code) (asked_most line (e ∷ es) answered) answered.2 parts.2
    (after_all line es a parts.0 answered.0 parts.1)

-- No request of it is taken for a duplicate, where nothing else uses the peer.
pub talk_new : (line : Line) (before after : TalkSeen) (r : Result Talked TalkFault)
    → TalksOver line before after r
    → AreNew line.peer before.caller.seat.seen before.caller.seat.worker after.caller.seat.seen
talk_new line before after r talks =
    (after_all line talks.exchanges before.caller.seat after.caller.seat talks.answered
    talks.made.seat).numbered.new
