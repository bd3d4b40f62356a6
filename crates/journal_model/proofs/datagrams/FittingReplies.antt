-- Replies that can be read when they are sent, and fit a datagram: refusals, changes, bodies and
-- 2.03.
use Rattle.std.proofs.Common.{
  ◌≡◌,
  ℕ,
  ◌+◌,
  ◌^◌,
  ◌<◌,
  ◌≤◌,
  Bool,
  true,
  false,
  cond,
  List,
  [],
  ◌∷◌,
  ◌++◌,
  length,
  Option,
  Some,
  None,
  unwrap_or,
  option_map,
  find,
  codes,
  decimal,
  nat_lt,
  nat_le,
  Ok,
  refl,
  subst,
  arith,
}
use Rattle.std.specs.List.{AllByRecursion}
use Rattle.std.proofs.lemmas.Bool.{leb-false}
use Rattle.std.proofs.lemmas.Fmt.{length-decimal-le_wide}
use Rattle.rd_base.specs.declared.parameters.RegParams.{RegParams}
use Rattle.rd_base.specs.declared.records.Name.{Name}
use Rattle.rd_base.specs.declared.records.Record.{Record}
use Rattle.message_model.specs.declared.blocks.Block.{Block}
use Rattle.message_model.specs.declared.messages.Kind4.{Kind4}
use Rattle.message_model.specs.declared.requests.Refusal as requests
use Rattle.message_model.specs.declared.requests.Refusal.TheVariants as refused_for
use Rattle.message_model.specs.Codes as codes_of
use Rattle.message_model.specs.Message.{Message, Opt, longest_token}
use Rattle.message_model.specs.OptionTable as table
use Rattle.message_model.specs.Blocks.{block_of}
use Rattle.message_model.specs.Numbers.{uint_bytes}
use Rattle.message_model.specs.Reading.{reading}
use Rattle.message_model.specs.Refusals.{refusal_of, refusal_code, diagnostic_of, link_format}
use Rattle.message_model.specs.Request.{queries_in}
use Rattle.message_model.specs.RequestKey.{key_in}
use Rattle.message_model.specs.Spelling.{spelling}
use Rattle.message_model.specs.Uploads.{max_body, collected_before, is_one_too_many}
use Rattle.message_model.proofs.MessageLaws.{reading_in_order}
use Rattle.message_model.proofs.TailLemmas.{AreInOrder}
use Rattle.record_model.specs.Parameters.{registration_values}
use Rattle.history_model.specs.declared.entries.Change.TheVariants as change
use Rattle.history_model.specs.declared.entries.Entry.{Entry}
use Rattle.history_model.specs.declared.refusals.Refusal.{Refusal}
use Rattle.history_model.specs.declared.refusals.Refusal.TheVariants as refusal
use Rattle.history_model.specs.Refusals.{max_entries, refusal_in, change_refusal}
use Rattle.history_model.specs.Replay.{replay, is_live_named, lifted, counted}
use Rattle.history_model.proofs.ReplayLaws.{counted_push}
use Rattle.history_model.proofs.Acceptance.{accepted}
use Rattle.history_model.proofs.NumberLaws.{
  IsNumberedUpTo,
  replay-HasRisingNumbers,
  last_number-le-counted,
}
use Rattle.event_model.specs.declared.notes.Note.{Note}
use Rattle.event_model.specs.declared.notes.Note.TheVariants as note
use Rattle.event_model.specs.Events.{Event}
use Rattle.event_model.specs.Uploads.{live_upload, live_uploads}
use Rattle.event_model.specs.Challenges.{next_challenge}
use Rattle.journal_model.specs.declared.steps.Step.{Step}
use Rattle.journal_model.specs.declared.rows.Row.{Row}
use Rattle.journal_model.specs.Journal.{events, entries}
use Rattle.journal_model.specs.Effects.{Reply, bare, diagnostic}
use Rattle.journal_model.specs.Requests.{
  Method,
  get,
  post,
  put,
  delete,
  other_method,
  sent_block,
  number_of,
  szx_of,
  has_bad_query,
  has_bad_payload,
  refusal_or_next,
  refusal_of_request,
}
use Rattle.journal_model.specs.Bodies.{block2_option, answered_block, part_reply, body_reply}
use Rattle.journal_model.specs.Looks.{still_valid, not_live}
use Rattle.journal_model.specs.Writes.{challenge}
use Rattle.journal_model.specs.Changes.{
  Outcome,
  refused_as,
  entered_unless,
  change_made,
  good_body,
  links_or_bad,
  limited_links,
  body_read,
  registered_links,
  registration,
  created_at,
  changed_with,
  number_after,
  entry_of_step,
  replaced_links,
  replacement,
  Purpose,
  to_register,
  to_replace,
  body_used,
}
use Rattle.journal_model.specs.Registrations.{
  block1_option,
  block_taken,
  block_unless,
  block_after,
  block_uploaded,
  links_outcome,
  registering,
  replacing,
  block_room,
}
use Rattle.journal_model.specs.Commits.{location_outcome}
use Rattle.journal_model.specs.SentDatagrams.{IsFitting}
use Rattle.journal_model.proofs.MessageSizeLaws.{room_for, spelling-most}
use Rattle.journal_model.proofs.sends.BodyAnswers.{
  with_reply,
  uint_bytes-length,
  block_value-length,
  options_of,
  options_in_order,
  IsShortTag,
  part_of,
}
use Rattle.record_model.specs.Bodies.{linked_references}
use Rattle.record_model.specs.Refusals.{first_unlimited}
use Rattle.rd_base.specs.declared.submitted_links.SubmittedLink.{SubmittedLink}
use Rattle.std.specs.Prelude.{is_some}
use Rattle.message_model.proofs.BlockLaws.{block_of_piece, block_size-most}

-- a reply whose code is one of responses, whose options can be written, and that leaves room for a
-- header and a token
pub record IsGoodReply (reply : Reply) : Type 0 where
  pub class : codes_of.is_reserved reply.code ≡ false
  pub filled : reply.code ≡ codes_of.empty → ⊥
  pub options : AreInOrder 0 reply.options
  pub room : room_for reply.options + length reply.payload ≤ 1_200

-- a message with such a reply and a token is read as it was written
pub reply_read : (kind : Kind4) (mid : ℕ) (token : List ℕ) (reply : Reply)
    → length token ≤ longest_token
    → IsGoodReply reply
    → reading (spelling (with_reply kind mid token reply)) ≡ Ok (with_reply kind mid token reply)
reply_read kind mid token reply small good =
    reading_in_order (with_reply kind mid token reply)
    (record {
      class = good.class;
      token = small;
      options = good.options;
      empty =
          λ e. absurd (good.filled e);
    })

-- and fits a datagram
pub reply_fits : (kind : Kind4) (mid : ℕ) (token : List ℕ) (reply : Reply)
    → length token ≤ longest_token
    → IsGoodReply reply
    → IsFitting (spelling (with_reply kind mid token reply))
reply_fits kind mid token reply small good = record {
  message = with_reply kind mid token reply;
  read = reply_read kind mid token reply small good;
  short =
      let most = spelling-most (with_reply kind mid token reply) in
      let room = good.room in omega (arith, most, room, small);
}

-- ---- refusals

-- a code and a short word
good_word : (code : ℕ) (word : List ℕ)
    → codes_of.is_reserved code ≡ false
    → (code ≡ codes_of.empty → ⊥)
    → length word ≤ 1_000
    → IsGoodReply (diagnostic code word)
good_word code word class filled short = record {
  class = class;
  filled = filled;
  options = tt;
  room = omega (arith, short);
}

-- a code alone
pub good_bare : (code : ℕ)
    → codes_of.is_reserved code ≡ false
    → (code ≡ codes_of.empty → ⊥)
    → IsGoodReply (bare code)
good_bare code class filled = record {
  class = class;
  filled = filled;
  options = tt;
  room = omega arith;
}

-- out of memory
pub good_starved : IsGoodReply (bare codes_of.internal_server_error)
good_starved = good_bare codes_of.internal_server_error refl (λ e. absurd (omega (arith, e)))

-- 5.03 with a short word
pub good_unavailable : (word : List ℕ)
    → length word ≤ 1_000
    → IsGoodReply (diagnostic codes_of.service_unavailable word)
good_unavailable word short =
    good_word codes_of.service_unavailable word refl (λ e. absurd (omega (arith, e))) short

-- 4.00 with a short word
good_bad : (word : List ℕ)
    → length word ≤ 1_000
    → IsGoodReply (diagnostic codes_of.bad_request word)
good_bad word short =
    good_word codes_of.bad_request word refl (λ e. absurd (omega (arith, e))) short

-- the value of a challenge has eight octets
pub next_challenge-length : (word : ℕ) (events : List Event)
    → length (next_challenge word events) ≡ 8
unfolding next_challenge
next_challenge-length word events = refl

-- 4.01 with such a value in Echo
pub good_challenge : (value : List ℕ) → length value ≡ 8 → IsGoodReply (challenge value)
good_challenge value short = record {
  class = refl;
  filled = λ e. absurd (omega (arith, e));
  options = (omega arith, omega arith, omega (arith, short), tt);
  room = omega (arith, short);
}

-- a refusal, where there is one
abbrev GoodIf : Option Reply → Type 0
GoodIf None = Unit {0}
GoodIf (Some reply) = IsGoodReply reply

refusal_GoodIf : (m : Message) → GoodIf (refusal_of_request m)
unfolding refusal_of_request
refusal_GoodIf m = by (refusal_of m)
  where
    coded : (why : requests.Refusal)
        → IsGoodReply (diagnostic (refusal_code why) (diagnostic_of why))
    coded (refused_for.BadOption number) =
        good_word codes_of.bad_option (codes "option") refl (λ e. absurd (omega (arith, e)))
        (omega arith)
    coded refused_for.Proxy =
        good_word codes_of.proxying_not_supported (codes "proxy") refl
        (λ e. absurd (omega (arith, e))) (omega arith)
    coded refused_for.Path =
        good_word codes_of.not_found (codes "path") refl (λ e. absurd (omega (arith, e)))
        (omega arith)
    coded refused_for.Method =
        good_word codes_of.method_not_allowed (codes "method") refl (λ e. absurd (omega (arith, e)))
        (omega arith)
    coded refused_for.Block =
        good_word codes_of.bad_request (codes "block") refl (λ e. absurd (omega (arith, e)))
        (omega arith)
    coded refused_for.Accept =
        good_word codes_of.not_acceptable (codes "accept") refl (λ e. absurd (omega (arith, e)))
        (omega arith)
    coded refused_for.Format =
        good_word codes_of.unsupported_content_format (codes "format") refl
        (λ e. absurd (omega (arith, e))) (omega arith)

    later : (a b : Bool)
        → GoodIf (cond a (Some (diagnostic codes_of.bad_request (codes "query")))
        (cond b (Some (diagnostic codes_of.bad_request (codes "payload"))) None))
    later true b = good_bad (codes "query") (omega arith)
    later false true = good_bad (codes "payload") (omega arith)
    later false false = tt

    by : (why : Option requests.Refusal) → GoodIf (refusal_or_next why m)
    by (Some why) = coded why
    by None = later (has_bad_query m) (has_bad_payload m)

-- what is answered to a refusal
pub good_refusal : (m : Message) (reply : Reply)
    → refusal_of_request m ≡ Some reply
    → IsGoodReply reply
good_refusal m reply e = subst GoodIf e (refusal_GoodIf m)

-- ---- bodies

-- a part of a body of at most 1,024 octets, under a tag and an Observe value
good_part : (tag : Option (List ℕ)) (observe : Option ℕ) (asked : Option Block)
    (part : List ℕ × Bool)
    → IsShortTag tag
    → length part.0 ≤ 1_024
    → IsGoodReply (part_of tag observe asked part)
good_part tag observe asked part short fits = record {
  class = refl;
  filled = λ e. absurd (omega (arith, e));
  options = options_in_order tag observe (answered_block asked part.1) short;
  room =
      let few = room_of tag observe (answered_block asked part.1) short in omega (arith, few, fits);
}
  where
    block_room : (b : Option Block) → room_for (block2_option b) ≤ 8
    block_room None = omega arith
    block_room (Some b) = let h = block_value-length b in omega (arith, h)

    last : (b : Option Block)
        → room_for ((table.content_format, uint_bytes link_format) ∷ block2_option b) ≤ 16
    last b = let h = uint_bytes-length link_format in let g = block_room b in omega (arith, h, g)

    room_of : (t : Option (List ℕ)) (o : Option ℕ) (b : Option Block)
        → IsShortTag t
        → room_for (options_of t o b) ≤ 100
    room_of None None b s = let h = last b in omega (arith, h)
    room_of None (Some n) b s = let h = last b in let g = uint_bytes-length n in omega (arith, h, g)
    room_of (Some t) None b s = let h = last b in omega (arith, h, s)
    room_of (Some t) (Some n) b s =
        let h = last b in let g = uint_bytes-length n in omega (arith, h, g, s)

-- a part of a body, where there is one
pub good_part_reply : (tag : Option (List ℕ)) (observe : Option ℕ) (asked : Option Block)
    (body : List ℕ) (part : Option (List ℕ × Bool))
    → IsShortTag tag
    → szx_of asked < 7
    → block_of body (number_of asked) (szx_of asked) ≡ part
    → IsGoodReply (part_reply tag observe asked part)
good_part_reply tag observe asked body None short usable cut =
    good_bad (codes "block") (omega arith)
good_part_reply tag observe asked body (Some part) short usable cut =
    good_part tag observe asked part short
    (let most = (block_of_piece body (number_of asked) (szx_of asked) part cut).most in
    let size = block_size-most (szx_of asked) usable in omega (arith, most, size))

-- a block of a body that is asked for
pub good_body_reply : (tag : Option (List ℕ)) (observe : Option ℕ) (asked : Option Block)
    (body : List ℕ)
    → IsShortTag tag
    → szx_of asked < 7
    → IsGoodReply (body_reply tag observe asked body)
unfolding body_reply
good_body_reply tag observe asked body short usable =
    good_part_reply tag observe asked body (block_of body (number_of asked) (szx_of asked)) short
    usable refl

-- 2.03 with a tag
pub good_valid : (current : List ℕ) → length current ≡ 8 → IsGoodReply (still_valid current)
good_valid current short = record {
  class = refl;
  filled = λ e. absurd (omega (arith, e));
  options = (omega arith, omega arith, omega (arith, short), tt);
  room = omega (arith, short);
}

-- ---- changes

-- what comes of a change
pub good_change : (history : List Entry) (entry : Entry) (done : Outcome)
    → (change_refusal 0 history entry ≡ None → IsGoodReply done.reply)
    → IsGoodReply (change_made history entry done).reply
good_change history entry done good = by (change_refusal 0 history entry) refl
  where
    refused : (why : Refusal) → IsGoodReply (refused_as why).reply
    refused refusal.Registration =
        good_word codes_of.not_found (codes "registration") refl (λ e. absurd (omega (arith, e)))
        (omega arith)
    refused refusal.Registrations = good_unavailable (codes "registrations") (omega arith)
    refused refusal.Text = good_unavailable (codes "text") (omega arith)
    refused refusal.Entries = good_unavailable (codes "entries") (omega arith)

    by : (why : Option Refusal)
        → change_refusal 0 history entry ≡ why
        → IsGoodReply (entered_unless why entry done).reply
    by (Some why) e = refused why
    by None e = good e

-- the number of a record that a history has is at most the number of its entries
found_numbered : (test : Record → Bool) (limit : ℕ) (records : List Record)
    → AllByRecursion (IsNumberedUpTo limit) records
    → unwrap_or (option_map (λ (r : Record). r.number) (find test records)) 0 ≤ limit
found_numbered test limit [] all = omega arith
found_numbered test limit (r ∷ rs) all = by (test r) (found_numbered test limit rs all.1)
  where
    by : (b : Bool)
        → unwrap_or (option_map (λ (x : Record). x.number) (find test rs)) 0 ≤ limit
        → unwrap_or (option_map (λ (x : Record). x.number) (cond b (Some r) (find test rs))) 0
        ≤ limit
    by true h = let high = all.0.1 in high
    by false h = h

number_after-most : (name : Name) (moment : ℕ) (history : List Entry)
    → number_after name moment history ≤ counted 0 history
number_after-most name moment history =
    let found =
    found_numbered (is_live_named name moment) (replay history).last_number
    (replay history).records (replay-HasRisingNumbers history).each_numbered in
    let last = last_number-le-counted 0 history in
    omega (arith, found, last)

-- further options of an answer to a registration: Block1 or none
abbrev pub FewOptions : List Opt → Type 0
FewOptions further = AreInOrder 8 further × (room_for further ≤ 100)

-- 2.01 with the location of a registration, where its number has few digits
good_created : (number : ℕ) (further : List Opt)
    → FewOptions further
    → number < 10 ^ 60
    → IsGoodReply (created_at number further)
good_created number further few small = record {
  class = refl;
  filled = λ e. absurd (omega (arith, e));
  options = (
    omega arith,
    omega arith,
    omega arith,
    (omega arith, omega arith, (let d = digits in omega (arith, d)), few.0),
  );
  room = let d = digits in let more = few.1 in omega (arith, d, more);
}
  where
    digits : length (decimal number) ≤ 60
    digits = length-decimal-le_wide 60 number (omega arith) small (omega (arith, small))

-- a registration of a whole body
pub good_registration : (history : List Entry) (moment : ℕ) (s : Step) (params : RegParams)
    (body : List ℕ) (further : List Opt) (notes : List Note)
    → FewOptions further
    → IsGoodReply (registration history moment s params body further notes).reply
unfolding registration body_read change_refusal
good_registration history moment s params body further notes few = by (linked_references body)
  where
    good : (links : List SubmittedLink)
        → IsGoodReply
        (registered_links history moment s params further notes (good_body links)).reply
    good links =
        let entry : Entry = entry_of_step moment s (change.Register params links) in
        good_change history entry
        (record {
          reply = created_at (number_after params.name moment (history ++ entry ∷ []))
              further;
          notes = notes;
        })
        (λ e. good_created (number_after params.name moment (history ++ entry ∷ [])) further few
        (low entry e))
      where
        not_full : (n : ℕ) → nat_le max_entries n ≡ false → n < max_entries
        not_full n h = leb-false max_entries n h

        opened : (entry : Entry)
            → change_refusal 0 history entry ≡ None
            → refusal_in (replay history) (counted 0 history) entry ≡ None
        opened entry e = e

        low : (entry : Entry)
            → change_refusal 0 history entry ≡ None
            → number_after params.name moment (history ++ entry ∷ []) < 10 ^ 60
        low entry e =
            let most = number_after-most params.name moment (history ++ entry ∷ []) in
            let size = counted_push 0 history entry in
            let few : lifted (counted 0 history) entry.change < max_entries =
            not_full (lifted (counted 0 history) entry.change)
            (accepted (replay history) (counted 0 history) entry (opened entry e)).counted
            in
            omega (arith, most, size, few)

    limited : (b : Bool) (links : List SubmittedLink)
        → IsGoodReply
        (registered_links history moment s params further notes (limited_links b links)).reply
    limited true links = good_bad (codes "limited") (omega arith)
    limited false links = good links

    by : (read : Option (List SubmittedLink))
        → IsGoodReply
        (registered_links history moment s params further notes (links_or_bad read)).reply
    by None = good_bad (codes "links") (omega arith)
    by (Some links) = limited (is_some (first_unlimited links)) links

-- a replacement of links by those of a whole body
good_replacement : (history : List Entry) (moment : ℕ) (s : Step) (number : ℕ) (body : List ℕ)
    (further : List Opt) (notes : List Note)
    → IsGoodReply (changed_with further)
    → IsGoodReply (replacement history moment s number body further notes).reply
unfolding replacement body_read
good_replacement history moment s number body further notes good = by (linked_references body)
  where
    limited : (b : Bool) (links : List SubmittedLink)
        → IsGoodReply
        (replaced_links history moment s number further notes (limited_links b links)).reply
    limited true links = good_bad (codes "limited") (omega arith)
    limited false links =
        good_change history (entry_of_step moment s (change.Replace number links))
        (record { reply = changed_with further; notes = notes }) (λ e. good)

    by : (read : Option (List SubmittedLink))
        → IsGoodReply
        (replaced_links history moment s number further notes (links_or_bad read)).reply
    by None = good_bad (codes "links") (omega arith)
    by (Some links) = limited (is_some (first_unlimited links)) links

-- Block1 in an answer: a few options
one_block : (b : Block) → FewOptions (block1_option b)
one_block b =
    let h = block_value-length b in
    ((omega arith, omega arith, omega (arith, h), tt), omega (arith, h))

-- a code with Block1, and nothing else
good_block1 : (code : ℕ) (b : Block)
    → codes_of.is_reserved code ≡ false
    → (code ≡ codes_of.empty → ⊥)
    → IsGoodReply (record { code = code; options = block1_option b; payload = [] })
good_block1 code b class filled = let h = block_value-length b in record {
  class = class;
  filled = filled;
  options = (omega arith, omega arith, omega (arith, h), tt);
  room = omega (arith, h);
}

-- a whole body, by what its links are for, answered with Block1 or without
good_body_used : (purpose : Purpose) (history : List Entry) (moment : ℕ) (s : Step)
    (body : List ℕ) (further : List Opt) (notes : List Note)
    → FewOptions further
    → IsGoodReply (changed_with further)
    → IsGoodReply (body_used purpose history moment s body further notes).reply
good_body_used (to_register params) history moment s body further notes few good =
    good_registration history moment s params body further notes few
good_body_used (to_replace number) history moment s body further notes few good =
    good_replacement history moment s number body further notes good

-- links that come whole, or a block of them
good_links : (block : Option Block) (purpose : Purpose) (rows : List Row) (moment : ℕ) (s : Step)
    (m : Message)
    → IsGoodReply (links_outcome block purpose rows moment s m).reply
unfolding block_uploaded
good_links block purpose rows moment s m = by block
  where
    taken : (more : Bool) (b : Block) (body : List ℕ)
        → IsGoodReply (block_taken more purpose rows moment s m b body).reply
    taken true b body =
        good_block1 codes_of.continue b refl (λ e. absurd (omega (arith, e)))
    taken false b body =
        good_body_used purpose (entries rows) moment s body (block1_option b)
        (note.Finished s.peer (key_in m) ∷ []) (one_block b)
        (good_block1 codes_of.changed b refl (λ e. absurd (omega (arith, e))))

    unless : (too_long too_many : Bool) (b : Block) (body : List ℕ)
        → IsGoodReply (block_unless (block_room too_long too_many) purpose rows moment s m b
        body).reply
    unless true too_many b body =
        good_word codes_of.request_entity_too_large (codes "size") refl
        (λ e. absurd (omega (arith, e))) (omega arith)
    unless false true b body = good_unavailable (codes "uploads") (omega arith)
    unless false false b body = taken b.more b body

    after : (front upload : Option (List ℕ)) (b : Block)
        → IsGoodReply (block_after front upload purpose rows moment s m b).reply
    after None upload b =
        good_word codes_of.request_entity_incomplete (codes "order") refl
        (λ e. absurd (omega (arith, e))) (omega arith)
    after (Some front) upload b =
        unless (nat_lt max_body (length front + length m.payload))
        (is_one_too_many b upload (live_uploads moment (events rows))) b (front ++ m.payload)

    by : (b : Option Block) → IsGoodReply (links_outcome b purpose rows moment s m).reply
    by None =
        good_body_used purpose (entries rows) moment s m.payload [] [] (tt, omega arith)
        (good_bare codes_of.changed refl (λ e. absurd (omega (arith, e))))
    by (Some b) =
        let upload : Option (List ℕ) = live_upload moment (s.peer, key_in m) (events rows) in
        after (collected_before b upload) upload b

-- a registration, and a replacement of links
pub good_registering : (rows : List Row) (moment : ℕ) (s : Step) (m : Message)
    → IsGoodReply (registering rows moment s m).reply
unfolding registering
good_registering rows moment s m =
    good_links (sent_block m) (to_register (registration_values (queries_in m))) rows moment s m

pub good_replacing : (rows : List Row) (moment : ℕ) (s : Step) (m : Message) (number : ℕ)
    → IsGoodReply (replacing rows moment s m number).reply
unfolding replacing
good_replacing rows moment s m number =
    good_links (sent_block m) (to_replace number) rows moment s m

-- what comes of a write on a registration
pub good_location : (w : Method) (rows : List Row) (moment : ℕ) (s : Step) (m : Message)
    (number : ℕ)
    → IsGoodReply (location_outcome w rows moment s m number).reply
good_location get rows moment s m number =
    good_word codes_of.method_not_allowed (codes "method") refl (λ e. absurd (omega (arith, e)))
    (omega arith)
good_location post rows moment s m number =
    good_change (entries rows) _ _
    (λ e. good_bare codes_of.changed refl (λ e. absurd (omega (arith, e))))
good_location put rows moment s m number = good_replacing rows moment s m number
good_location delete rows moment s m number =
    good_change (entries rows) _ _
    (λ e. good_bare codes_of.deleted refl (λ e. absurd (omega (arith, e))))
good_location other_method rows moment s m number =
    good_word codes_of.method_not_allowed (codes "method") refl (λ e. absurd (omega (arith, e)))
    (omega arith)

-- a registration that is not live
pub good_not_live : IsGoodReply not_live
good_not_live =
    good_word codes_of.not_found (codes "registration") refl (λ e. absurd (omega (arith, e)))
    (omega arith)
