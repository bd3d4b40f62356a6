-- What the uploads of a table stand for, as blocks come and uploads end.
use Rattle.std.proofs.Common.{
  ◌≡◌,
  ℕ,
  ◌≤◌,
  ◌==◌,
  suc,
  Bool,
  true,
  false,
  not,
  ◌&&◌,
  ◌||◌,
  cond,
  List,
  [],
  ◌∷◌,
  ◌++◌,
  length,
  filter,
  find,
  Option,
  Some,
  None,
  option_map,
  option_and_then,
  is_some,
  refl,
  sym,
  ap,
  subst,
  ◌∙◌,
  arith,
  append-nil,
}
use Rattle.std.specs.List.{cons_option, filter_map, list_any, AllByRecursion}
use Rattle.std.proofs.lemmas.Bool.{false≢true, and_parts, or_parts}
use Rattle.std.proofs.lemmas.List.Elements.{filter_map-append, filter-append}
use Rattle.std.proofs.lemmas.List.Folds.{list_any-append}
use Rattle.rd_base.specs.declared.peers.Peer.{Peer}
use Rattle.rd_base.proofs.lemmas.Filters.{
  filter_all,
  filter_stronger,
  filter_swapped,
  find-filter,
  any_kept,
}
use Rattle.rd_base.proofs.lemmas.Options.{some_same, none_some}
use Rattle.rd_base.proofs.lemmas.Each.{each_one, each_weaker, each_passes}
use Rattle.rd_base.proofs.lemmas.Pairs.{PairsByRecursion, pairs_filter, pairs_push}
use Rattle.event_model.specs.declared.notes.Note.{Note}
use Rattle.event_model.specs.declared.notes.Note.TheVariants as note
use Rattle.event_model.specs.Same.{RequestName, is_same_request}
use Rattle.event_model.specs.Events.{Event, last_event, event_moment, is_young}
use Rattle.event_model.specs.Uploads.{
  collected_after,
  upload,
  is_piece_of,
  is_live_upload,
  live_upload,
  starts_or_ends_upload,
  begun_by,
  uploads,
  live_uploads,
  Upload,
  upload_of,
  uploads_at,
}
use Rattle.event_model.proofs.SameLaws.{is_same_request-Decides, is_same_request-refl}
use Rattle.event_model.proofs.NotedLaws.{event_at}
use Rattle.event_model.proofs.AsideTables.{about_uploads, uploads_at-noted}
use Rattle.rd_base.specs.Firsts.{changed_first}
use Rattle.transfers.specs.Uploading.{
  is_of,
  is_live_as,
  live_body,
  young_uploads,
  other_uploads,
  without_upload,
  first_block,
  with_block,
  begun,
  gone_on,
}
use Rattle.transfers.specs.TransferEvents.{UploadsStandFor}

-- an event by its parts
same_event : (e : Event) (moment : ℕ) (n : Note)
    → e.moment ≡ moment
    → e.note ≡ n
    → e ≡ event_at e.place moment e.word n
same_event e moment n at is =
    ap (λ m. event_at e.place m e.word e.note) at ∙ ap (λ k. event_at e.place moment e.word k) is

-- ---- time

-- what is young later was young before
young_before : (at now moment : ℕ)
    → at ≤ now
    → is_young now moment ≡ true
    → is_young at moment ≡ true
young_before at now moment h y = grind (arith, y, h)

young_now : (now : ℕ) → is_young now now ≡ true
young_now now = grind arith

young-later : (at now : ℕ) (us : List Upload)
    → at ≤ now
    → young_uploads now (young_uploads at us) ≡ young_uploads now us
young-later at now us h =
    filter_stronger (λ (u : Upload). is_young now u.moment) (λ (u : Upload). is_young at u.moment)
    (λ u y. young_before at now u.moment h y) us

-- ---- the upload of one name

-- one that lives has its name, and its last block is young
lately : (now : ℕ) (name : RequestName) (events : List Event) (o : Option Event)
    → last_event (is_piece_of name) events ≡ o
    → is_live_upload now name events ≡ true
    → is_young now (event_moment o) ≡ true
lately now name events None e h = absurd (false≢true (rw e at h))
lately now name events (Some x) e h = rw e at h

pub upload_of-shows : (now : ℕ) (events : List Event) (name : RequestName) (u : Upload)
    → upload_of now events name ≡ Some u
    → (u.name ≡ name) × (is_young now u.moment ≡ true)
unfolding live_upload
upload_of-shows now events name u there =
    by (upload name events) (is_live_upload now name events) refl there
  where
    moment : ℕ
    moment = event_moment (last_event (is_piece_of name) events)

    by : (body : Option (List ℕ)) (live : Bool) → is_live_upload now name events ≡ live
        → option_map (λ octets. record { name = name; body = octets; moment = moment })
        (option_and_then (λ octets. cond live (Some octets) None) body)
        ≡ Some u
        → (u.name ≡ name) × (is_young now u.moment ≡ true)
    by None live e h = absurd (let none : None ≡ Some u = h in cc)
    by (Some octets) false e h = absurd (let none : None ≡ Some u = h in cc)
    by (Some octets) true e h =
        let young : is_young now moment ≡ true =
        lately now name events (last_event (is_piece_of name) events) refl e in
        let same : record { name = name; body = octets; moment = moment } ≡ u = some_same h in (
          sym (ap (λ (v : Upload). v.name) same),
          subst
              (λ (v : Upload). is_young now v.moment ≡ true) same young,
        )

-- the tests of names
same_names : (name other : RequestName) → is_same_request name other ≡ true → name ≡ other
same_names name other e = (is_same_request-Decides name other).0 e

other_way : (name other : RequestName)
    → is_same_request name other ≡ false
    → is_same_request other name ≡ false
other_way name other e = by (is_same_request other name) refl
  where
    by : (b : Bool) → is_same_request other name ≡ b → is_same_request other name ≡ false
    by false h = h
    by true h =
        absurd (false≢true
        (sym e ∙ (is_same_request-Decides name other).1 (sym (same_names other name h))))

-- where a name is not among those that have an upload, nothing is collected under it
passes_on : (test keep : RequestName → Bool)
    → ((n : RequestName) → test n ≡ true → keep n ≡ true)
    → (xs more : List RequestName)
    → list_any test (filter keep xs ++ more) ≡ false
    → (list_any test xs ≡ false) × (list_any test more ≡ false)
passes_on test keep kept_too xs more none =
    let both =
    or_parts (list_any test (filter keep xs)) (list_any test more)
    (sym (list_any-append test (filter keep xs) more) ∙ none) in
    (sym (any_kept test keep kept_too xs) ∙ both.0, both.1)

collected_other : (name : RequestName) (n : Note)
    → starts_or_ends_upload n name ≡ false
    → collected_after name n None ≡ None
collected_other name (note.Piece peer key number octets) h =
    by (is_same_request (peer, key) name) (number == 0) h
  where
    by : (s z : Bool)
        → (z && s) ≡ false
        → cond s (cond z (Some octets) (option_map (λ collected. collected ++ octets) None)) None
        ≡ None
    by true true h = absurd (false≢true (sym h))
    by true false h = refl
    by false z h = refl
collected_other name (note.Finished peer key) h = rw h refl
collected_other name _ h = refl

collected_anew : (name : RequestName) (n : Note)
    → starts_or_ends_upload n name ≡ true
    → list_any (is_same_request name) (begun_by n) ≡ false
    → (o : Option (List ℕ))
    → collected_after name n o ≡ None
collected_anew name (note.Piece peer key number octets) h none o = by (number == 0) refl h none
  where
    by : (z : Bool)
        → (number == 0) ≡ z
        → (z && is_same_request (peer, key) name) ≡ true
        → list_any (is_same_request name) (cond z ((peer, key) ∷ []) []) ≡ false
        → collected_after name (note.Piece peer key number octets) o ≡ None
    by true e s none =
        let both = or_parts (is_same_request name (peer, key)) false none in
        absurd (false≢true (sym both.0
        ∙ (is_same_request-Decides name (peer, key)).1
        (sym (same_names (peer, key) name s))))
    by false e s none = absurd (false≢true s)
collected_anew name (note.Finished peer key) h none o = rw h refl
collected_anew name _ h none o = absurd (false≢true h)

pub none_collected : (name : RequestName) (events : List Event)
    → list_any (is_same_request name) (uploads events) ≡ false
    → upload name events ≡ None
unfolding upload uploads
none_collected name [] none = refl
none_collected name (e ∷ before) none =
    by (starts_or_ends_upload e.note name) refl (none_collected name before)
  where
    keep : RequestName → Bool
    keep n = not (starts_or_ends_upload e.note n)

    by : (b : Bool)
        → starts_or_ends_upload e.note name ≡ b
        → (list_any (is_same_request name) (uploads before) ≡ false → upload name before ≡ None)
        → collected_after name e.note (upload name before) ≡ None
    by true h more =
        collected_anew name e.note h
        (or_parts (list_any (is_same_request name) (filter keep (uploads before)))
        (list_any (is_same_request name) (begun_by e.note))
        (sym (list_any-append (is_same_request name) (filter keep (uploads before))
        (begun_by e.note))
        ∙ none)).1 (upload name before)
    by false h more =
        let kept_too : (n : RequestName) → is_same_request name n ≡ true → keep n ≡ true =
        λ n s.
        ap not
        (subst (λ m. starts_or_ends_upload e.note m ≡ false) (same_names name n s) h) in
        let was =
        more (passes_on (is_same_request name) keep kept_too (uploads before) (begun_by e.note)
        none).0 in
        rw was (collected_other name e.note h)

no_upload : (b : Bool) → ◌≡◌ {A = Option Upload} (cond b None None) None
no_upload true = refl
no_upload false = refl

-- what is found under a name among the uploads of names
found_among : (now : ℕ) (name : RequestName) (events : List Event) (ns : List RequestName)
    → find (is_live_as now name) (filter_map (upload_of now events) ns)
    ≡ cond (list_any (is_same_request name) ns) (upload_of now events name) None
found_among now name events [] = refl
found_among now name events (n ∷ ns) =
    by (is_same_request name n) refl (upload_of now events n) refl (found_among now name events ns)
  where
    rest : List Upload
    rest = filter_map (upload_of now events) ns

    any : Bool
    any = list_any (is_same_request name) ns

    by : (b : Bool)
        → is_same_request name n ≡ b
        → (o : Option Upload)
        → upload_of now events n ≡ o
        → find (is_live_as now name) rest ≡ cond any (upload_of now events name) None
        → find (is_live_as now name) (cons_option o rest)
        ≡ cond (b || any) (upload_of now events name) None
    by true s None e more =
        let none : upload_of now events name ≡ None =
        ap (upload_of now events) (same_names name n s) ∙ e in
        more ∙ (ap (λ o. cond any o None) none ∙ (no_upload any ∙ sym none))
    by true s (Some u) e more =
        let shows = upload_of-shows now events n u e in
        let named : is_of name u ≡ true =
        subst (λ m. is_same_request name m ≡ true) (sym shows.0) s in
        rw (named, shows.1) (sym (ap (upload_of now events) (same_names name n s) ∙ e))
    by false s None e more = more
    by false s (Some u) e more =
        let shows = upload_of-shows now events n u e in
        let other : is_of name u ≡ false =
        subst (λ m. is_same_request name m ≡ false) (sym shows.0) s in
        rw other more

pub found-upload : (now : ℕ) (name : RequestName) (events : List Event)
    → find (is_live_as now name) (uploads_at now events) ≡ upload_of now events name
unfolding uploads_at live_upload
found-upload now name events =
    found_among now name events (uploads events)
    ∙ by (list_any (is_same_request name) (uploads events)) refl
  where
    by : (b : Bool)
        → list_any (is_same_request name) (uploads events) ≡ b
        → cond b (upload_of now events name) None ≡ upload_of now events name
    by true e = refl
    by false e = let none = none_collected name events e in rw none refl

-- ---- what a table finds

pub live_body-is : (now : ℕ) (name : RequestName) (events : List Event) (us : List Upload)
    → UploadsStandFor now events us
    → live_body now name us ≡ live_upload now name events
unfolding live_body
live_body-is now name events us stands =
    ap (option_map (λ (u : Upload). u.body))
    (sym (find-filter (is_live_as now name) (λ (u : Upload). is_young now u.moment)
    (λ u h. (and_parts (is_of name u) (is_young now u.moment) h).1) us)
    ∙ (ap (find (is_live_as now name)) stands.live ∙ found-upload now name events))
    ∙ again (live_upload now name events)
  where
    again : (o : Option (List ℕ))
        → option_map (λ (u : Upload). u.body) (option_map (λ octets.
        record {
          name = name;
          body = octets;
          moment = event_moment
              (last_event (is_piece_of name) events);
        }) o)
        ≡ o
    again None = refl
    again (Some octets) = refl

-- how many live
count_among : (now : ℕ) (events : List Event) (ns : List RequestName)
    → length (filter_map (upload_of now events) ns)
    ≡ length (filter (λ name. is_some (live_upload now name events)) ns)
count_among now events [] = refl
count_among now events (n ∷ ns) = by (live_upload now n events) (count_among now events ns)
  where
    moment : ℕ
    moment = event_moment (last_event (is_piece_of n) events)

    rest : List RequestName
    rest = filter (λ name. is_some (live_upload now name events)) ns

    by : (o : Option (List ℕ)) → length (filter_map (upload_of now events) ns) ≡ length rest
        → length (cons_option
        (option_map (λ octets. record { name = n; body = octets; moment = moment }) o)
        (filter_map (upload_of now events) ns))
        ≡ length (cond (is_some o) (n ∷ rest) rest)
    by None more = more
    by (Some octets) more = ap (λ k. suc k) more

pub count-is : (now : ℕ) (events : List Event) (us : List Upload)
    → UploadsStandFor now events us
    → length (young_uploads now us) ≡ live_uploads now events
unfolding uploads_at live_uploads
count-is now events us stands = ap length stands.live ∙ count_among now events (uploads events)

-- ---- no event, later moments, and notes that are aside

pub UploadsStandFor-none : (at : ℕ) → UploadsStandFor at [] []
unfolding uploads_at uploads
UploadsStandFor-none at = record { live = refl }

-- an upload as it shows, by its last block and by what is collected
abbrev young_event : ℕ → Option Event → Bool
young_event now None = false
young_event now (Some e) = is_young now e.moment

abbrev shown : ℕ → RequestName → Option Event → Option (List ℕ) → Option Upload
shown now name last body =
    option_map (λ octets. record { name = name; body = octets; moment = event_moment last })
    (option_and_then (λ octets. cond (young_event now last) (Some octets) None) body)

live_is : (now : ℕ) (name : RequestName) (events : List Event) (o : Option Event)
    → last_event (is_piece_of name) events ≡ o
    → is_live_upload now name events ≡ young_event now o
live_is now name events None e = rw e refl
live_is now name events (Some x) e = rw e refl

upload_of-is : (now : ℕ) (events : List Event) (name : RequestName)
    → upload_of now events name
    ≡ shown now name (last_event (is_piece_of name) events) (upload name events)
unfolding live_upload
upload_of-is now events name =
    ap (λ live. option_map (λ octets.
    record {
      name = name;
      body = octets;
      moment = event_moment
          (last_event (is_piece_of name) events);
    })
    (option_and_then (λ (octets : List ℕ). cond live (Some octets) None) (upload name events)))
    (live_is now name events (last_event (is_piece_of name) events) refl)

abbrev if_young : ℕ → Upload → Option Upload
if_young now u = cond (is_young now u.moment) (Some u) None

later_one : (at now : ℕ) (name : RequestName) (last : Option Event) (body : Option (List ℕ))
    → at ≤ now
    → option_and_then (if_young now) (shown at name last body) ≡ shown now name last body
later_one at now name last None h = refl
later_one at now name None (Some octets) h = refl
later_one at now name (Some e) (Some octets) h =
    by (is_young at e.moment) (is_young now e.moment) refl refl
  where
    u : Upload
    u = record { name = name; body = octets; moment = e.moment }

    by : (a n : Bool) → is_young at e.moment ≡ a → is_young now e.moment ≡ n
        → option_and_then (if_young now)
        (option_map (λ bytes. record { name = name; body = bytes; moment = e.moment })
        (cond a (Some octets) None))
        ≡ option_map (λ bytes. record { name = name; body = bytes; moment = e.moment })
        (cond n (Some octets) None)
    by true true a n = rw n refl
    by true false a n = rw n refl
    by false true a n = absurd (false≢true (sym a ∙ young_before at now e.moment h n))
    by false false a n = refl

-- what a filter keeps of what is found
filter_found : {A B : Type 0} (test : B → Bool) (f g : A → Option B)
    → ((x : A) → option_and_then (λ y. cond (test y) (Some y) None) (f x) ≡ g x)
    → (xs : List A)
    → filter test (filter_map f xs) ≡ filter_map g xs
filter_found test f g same [] = refl
filter_found {A} {B} test f g same (x ∷ xs) = by (f x) (same x) (filter_found test f g same xs)
  where
    by : (o : Option B)
        → option_and_then (λ y. cond (test y) (Some y) None) o ≡ g x
        → filter test (filter_map f xs) ≡ filter_map g xs
        → filter test (cons_option o (filter_map f xs)) ≡ cons_option (g x) (filter_map g xs)
    by None e more = rw (sym e) more
    by (Some y) e more = kept (test y) refl
      where
        kept : (b : Bool)
            → test y ≡ b
            → cond (test y) (y ∷ filter test (filter_map f xs)) (filter test (filter_map f xs))
            ≡ cons_option (g x) (filter_map g xs)
        kept true t =
            let there : Some y ≡ g x = rw t at e in rw (t, sym there) (ap (λ ys. y ∷ ys) more)
        kept false t = let none : None ≡ g x = rw t at e in rw (t, sym none) more

pub UploadsStandFor-later : (at now : ℕ) (events : List Event) (us : List Upload)
    → at ≤ now
    → UploadsStandFor at events us
    → UploadsStandFor now events us
unfolding uploads_at
UploadsStandFor-later at now events us h stands = record {
  live =
      sym (young-later at now us h)
      ∙ (ap (young_uploads now) stands.live
      ∙ filter_found (λ (u : Upload). is_young now u.moment) (upload_of at events)
      (upload_of now events)
      (λ name. ap (option_and_then (if_young now)) (upload_of-is at events name)
      ∙ (later_one at now name (last_event (is_piece_of name) events) (upload name events) h
      ∙ sym (upload_of-is now events name))) (uploads events));
}

pub UploadsStandFor-aside : (at : ℕ) (e : Event) (events : List Event) (us : List Upload)
    → about_uploads e.note ≡ false
    → UploadsStandFor at events us
    → UploadsStandFor at (e ∷ events) us
UploadsStandFor-aside at e events us other stands = record {
  live =
      stands.live
      ∙ sym (uploads_at-noted at e.place e.moment e.word (e.note ∷ []) events (rw other refl));
}

-- ---- a block that begins an upload

-- those of other names show as before
others_shown : (test : Upload → Bool) (keep : RequestName → Bool)
    (f g : RequestName → Option Upload)
    → ((n : RequestName) (u : Upload) → f n ≡ Some u → test u ≡ keep n)
    → ((n : RequestName) → keep n ≡ true → g n ≡ f n)
    → (ns : List RequestName) → filter test (filter_map f ns) ≡ filter_map g (filter keep ns)
others_shown test keep f g tests same [] = refl
others_shown test keep f g tests same (n ∷ ns) =
    by (keep n) refl (f n) refl (others_shown test keep f g tests same ns)
  where
    front : List Upload
    front = filter test (filter_map f ns)

    left : List RequestName
    left = filter keep ns

    by : (k : Bool)
        → keep n ≡ k
        → (o : Option Upload)
        → f n ≡ o
        → front ≡ filter_map g left
        → filter test (cons_option o (filter_map f ns)) ≡ filter_map g (cond k (n ∷ left) left)
    by true k None e more = rw (same n k, e) more
    by true k (Some u) e more = rw (tests n u e, k, same n k, e) (ap (λ us. u ∷ us) more)
    by false k None e more = more
    by false k (Some u) e more = rw (tests n u e, k) more

-- of other names, whose upload a note is not about
other_upload : (now : ℕ) (e : Event) (events : List Event) (name : RequestName)
    → ((o : Option (List ℕ)) → collected_after name e.note o ≡ o)
    → is_piece_of name e.note ≡ false
    → upload_of now (e ∷ events) name ≡ upload_of now events name
unfolding live_upload upload
other_upload now e events name same none = rw (none, same (upload name events)) refl

piece_of_other : (peer : Peer) (key : List ℕ) (number : ℕ) (octets : List ℕ) (name : RequestName)
    → is_same_request (peer, key) name ≡ false
    → (o : Option (List ℕ))
    → collected_after name (note.Piece peer key number octets) o ≡ o
piece_of_other peer key number octets name s o = rw s refl

end_of_other : (peer : Peer) (key : List ℕ) (name : RequestName)
    → is_same_request (peer, key) name ≡ false
    → (o : Option (List ℕ))
    → collected_after name (note.Finished peer key) o ≡ o
end_of_other peer key name s o = rw s refl

-- the tests of the names of uploads that show
other_tests : (now : ℕ) (events : List Event) (name n : RequestName) (u : Upload)
    → upload_of now events n ≡ Some u
    → not (is_of name u) ≡ not (is_same_request name n)
other_tests now events name n u there =
    ap (λ (m : RequestName). not (is_same_request name m)) (upload_of-shows now events n u there).0

not_false : (b : Bool) → not b ≡ true → b ≡ false
not_false true h = absurd (false≢true h)
not_false false h = refl

-- those of other names that live
others-split : (now : ℕ) (name : RequestName) (us : List Upload)
    → other_uploads now name us ≡ without_upload name (young_uploads now us)
others-split now name [] = refl
others-split now name (u ∷ us) =
    by (is_young now u.moment) (is_of name u) refl (others-split now name us)
  where
    young : List Upload
    young = young_uploads now us

    by : (y o : Bool)
        → is_of name u ≡ o
        → other_uploads now name us ≡ without_upload name young
        → cond (y && not o) (u ∷ other_uploads now name us) (other_uploads now name us)
        ≡ without_upload name (cond y (u ∷ young) young)
    by true true e more = rw e more
    by true false e more = rw e (ap (λ rest. u ∷ rest) more)
    by false o e more = more

others-young : (now : ℕ) (name : RequestName) (us : List Upload)
    → young_uploads now (other_uploads now name us) ≡ without_upload name (young_uploads now us)
others-young now name us =
    ap (young_uploads now) (others-split now name us)
    ∙ (filter_swapped (λ (u : Upload). is_young now u.moment) (λ (u : Upload). not (is_of name u))
    (young_uploads now us)
    ∙ ap (without_upload name) (filter_stronger (λ (u : Upload). is_young now u.moment)
    (λ (u : Upload). is_young now u.moment) (λ u y. y) us))

first_shows : (now place word : ℕ) (peer : Peer) (key : List ℕ) (number : ℕ) (octets : List ℕ)
    (events : List Event)
    → (number == 0) ≡ true
    → upload_of now (event_at place now word (note.Piece peer key number octets) ∷ events)
    (peer, key)
    ≡ Some (first_block (peer, key) octets now)
unfolding live_upload upload
first_shows now place word peer key number octets events z =
    rw (is_same_request-refl (peer, key), z, young_now now) refl

begins : (now place word : ℕ) (peer : Peer) (key : List ℕ) (number : ℕ) (octets : List ℕ)
    (events : List Event) (us : List Upload)
    → (number == 0) ≡ true
    → UploadsStandFor now events us
    → young_uploads now (begun now (peer, key) octets us)
    ≡ uploads_at now (event_at place now word (note.Piece peer key number octets) ∷ events)
unfolding begun uploads_at uploads
begins now place word peer key number octets events us z stands =
    filter-append (λ (u : Upload). is_young now u.moment) (other_uploads now name us) (new ∷ [])
    ∙ (ap (λ xs. xs ++ young_uploads now (new ∷ []))
    (others-young now name us ∙ (ap (without_upload name) stands.live ∙ left))
    ∙ (ap (λ xs. filter_map f (filter keep (uploads events)) ++ xs) last
    ∙ (sym (filter_map-append f (filter keep (uploads events)) (name ∷ []))
    ∙ rw z refl)))
  where
    name : RequestName
    name = (peer, key)

    new : Upload
    new = first_block name octets now

    e : Event
    e = event_at place now word (note.Piece peer key number octets)

    keep : RequestName → Bool
    keep n = not (is_same_request name n)

    f : RequestName → Option Upload
    f n = upload_of now (e ∷ events) n

    left :
        without_upload name (filter_map (upload_of now events) (uploads events))
        ≡ filter_map f (filter keep (uploads events))
    left =
        others_shown (λ u. not (is_of name u)) keep (upload_of now events) f
        (other_tests now events name)
        (λ n k.
        let s = not_false (is_same_request name n) k in
        other_upload now e events n (piece_of_other peer key number octets n s) s)
        (uploads events)

    last : young_uploads now (new ∷ []) ≡ filter_map f (name ∷ [])
    last =
        rw (young_now now) (sym (ap (λ o. cons_option o [])
        (first_shows now place word peer key number octets events z)))

pub UploadsStandFor-begun : (now : ℕ) (peer : Peer) (key : List ℕ) (number : ℕ) (octets : List ℕ)
    (e : Event) (events : List Event) (us : List Upload)
    → e.note ≡ note.Piece peer key number octets
    → e.moment ≡ now
    → (number == 0) ≡ true
    → UploadsStandFor now events us
    → UploadsStandFor now (e ∷ events) (begun now (peer, key) octets us)
UploadsStandFor-begun now peer key number octets e events us is moment z stands =
    record {
      live =
          begins now e.place e.word peer key number octets events us z stands
          ∙ ap (λ x. uploads_at now (x ∷ events))
          (sym (same_event e now (note.Piece peer key number octets) moment is));
    }

-- ---- a block that goes on with an upload

-- no two uploads have one name
abbrev Differ : RequestName → RequestName → Type 0
Differ name other = is_same_request name other ≡ false

pub uploads-differ : (events : List Event) → PairsByRecursion Differ (uploads events)
unfolding uploads
uploads-differ [] = tt
uploads-differ (e ∷ before) = by e.note (uploads-differ before)
  where
    -- with a last one that the others were kept from
    pushed : (name : RequestName) (ns : List RequestName)
        → PairsByRecursion Differ ns
        → PairsByRecursion Differ (filter (λ m. not (is_same_request name m)) ns ++ name ∷ [])
    pushed name ns h =
        pairs_push Differ (filter (λ m. not (is_same_request name m)) ns) name
        (pairs_filter Differ (λ m. not (is_same_request name m)) ns h)
        (each_weaker (λ m. not (is_same_request name m) ≡ true) (λ m. Differ m name)
        (λ m k. other_way name m (not_false (is_same_request name m) k))
        (filter (λ m. not (is_same_request name m)) ns)
        (each_passes (λ m. not (is_same_request name m)) ns))

    kept : (keep : RequestName → Bool) (ns : List RequestName)
        → PairsByRecursion Differ ns
        → PairsByRecursion Differ (filter keep ns ++ [])
    kept keep ns h =
        subst (PairsByRecursion Differ) (sym (append-nil (filter keep ns)))
        (pairs_filter Differ keep ns h)

    by : (n : Note)
        → PairsByRecursion Differ (uploads before)
        → PairsByRecursion Differ
        (filter (λ m. not (starts_or_ends_upload n m)) (uploads before) ++ begun_by n)
    by (note.Piece peer key number octets) h = piece (number == 0)
      where
        piece : (z : Bool)
            → PairsByRecursion Differ
            (filter (λ m. not (z && is_same_request (peer, key) m)) (uploads before)
            ++ cond z ((peer, key) ∷ []) [])
        piece true = pushed (peer, key) (uploads before) h
        piece false = kept (λ m. true) (uploads before) h
    by (note.Finished peer key) h =
        kept (λ m. not (is_same_request (peer, key) m)) (uploads before) h
    by _ h = kept (λ m. true) (uploads before) h

-- the one that gets a further block is the only one of its name
young-grown : (now : ℕ) (name : RequestName) (octets : List ℕ) (us : List Upload)
    → young_uploads now (changed_first (is_live_as now name) (with_block octets now) us)
    ≡ changed_first (is_of name) (with_block octets now) (young_uploads now us)
unfolding changed_first
young-grown now name octets [] = refl
young-grown now name octets (u ∷ us) =
    by (is_young now u.moment) (is_of name u) refl refl (young-grown now name octets us)
  where
    young : List Upload
    young = young_uploads now us

    grown : List Upload
    grown = changed_first (is_live_as now name) (with_block octets now) us

    by : (y o : Bool)
        → is_young now u.moment ≡ y
        → is_of name u ≡ o
        → young_uploads now grown ≡ changed_first (is_of name) (with_block octets now) young
        → young_uploads now (cond (o && y) (with_block octets now u ∷ us) (u ∷ grown))
        ≡ changed_first (is_of name) (with_block octets now) (cond y (u ∷ young) young)
    by true true y o more = rw (young_now now, o) refl
    by true false y o more = rw (y, o) (ap (λ rest. u ∷ rest) more)
    by false true y o more = rw y more
    by false false y o more = rw y more

grown_shown : (name : RequestName) (octets : List ℕ) (now : ℕ) (f g : RequestName → Option Upload)
    → ((n : RequestName) (u : Upload) → f n ≡ Some u → u.name ≡ n)
    → ((n : RequestName) → is_same_request name n ≡ false → g n ≡ f n)
    → (was : Upload)
    → f name ≡ Some was
    → g name ≡ Some (with_block octets now was)
    → (ns : List RequestName)
    → PairsByRecursion Differ ns
    → changed_first (is_of name) (with_block octets now) (filter_map f ns) ≡ filter_map g ns
unfolding changed_first
grown_shown name octets now f g named same was there grown [] pairs = refl
grown_shown name octets now f g named same was there grown (n ∷ ns) pairs =
    by (is_same_request name n) refl (f n) refl
    (grown_shown name octets now f g named same was there grown ns pairs.1)
  where
    -- the others are as they were
    rest_same : (ms : List RequestName)
        → AllByRecursion (λ m. is_same_request name m ≡ false) ms
        → filter_map f ms ≡ filter_map g ms
    rest_same [] each = refl
    rest_same (m ∷ ms) each =
        rw (same m each.0) (ap (λ us. cons_option (f m) us) (rest_same ms each.1))

    by : (s : Bool)
        → is_same_request name n ≡ s
        → (o : Option Upload)
        → f n ≡ o
        → changed_first (is_of name) (with_block octets now) (filter_map f ns) ≡ filter_map g ns
        → changed_first (is_of name) (with_block octets now) (cons_option o (filter_map f ns))
        ≡ cons_option (g n) (filter_map g ns)
    by true s None e more =
        let h : None ≡ Some was = sym e ∙ (ap f (sym (same_names name n s)) ∙ there) in
        absurd (none_some h)
    by true s (Some u) e more =
        let here : name ≡ n = same_names name n s in
        let is : u ≡ was = some_same (sym e ∙ (ap f (sym here) ∙ there)) in
        let now_is : g n ≡ Some (with_block octets now u) =
        ap g (sym here)
        ∙ (grown ∙ ap (λ (v : Upload). Some (with_block octets now v)) (sym is)) in
        let of : is_of name u ≡ true =
        subst (λ m. is_same_request name m ≡ true) (sym (named n u e)) s in
        let others =
        each_weaker (Differ n) (λ m. is_same_request name m ≡ false)
        (λ m d. subst (λ k. is_same_request k m ≡ false) (sym here) d) ns pairs.0 in
        rw (of, now_is) (ap (λ us. with_block octets now u ∷ us) (rest_same ns others))
    by false s None e more = rw (same n s, e) more
    by false s (Some u) e more =
        let no : is_of name u ≡ false =
        subst (λ m. is_same_request name m ≡ false) (sym (named n u e)) s in
        rw (no, same n s, e) (ap (λ us. u ∷ us) more)

-- an upload that lives, as it shows
whole : (now : ℕ) (name : RequestName) (events : List Event) (body : List ℕ)
    → live_upload now name events ≡ Some body
    → upload name events ≡ Some body
unfolding live_upload
whole now name events body h = by (upload name events) (is_live_upload now name events) h
  where
    by : (o : Option (List ℕ)) (live : Bool)
        → option_and_then (λ octets. cond live (Some octets) None) o ≡ Some body
        → o ≡ Some body
    by None live h = absurd (none_some h)
    by (Some octets) true h = h
    by (Some octets) false h = absurd (none_some h)

live-shows : (now : ℕ) (name : RequestName) (events : List Event) (body : List ℕ)
    → live_upload now name events ≡ Some body
    → (upload name events ≡ Some body)
    × (upload_of now events name
    ≡ Some (record {
      name = name;
      body = body;
      moment = event_moment
          (last_event (is_piece_of name) events);
    }))
live-shows now name events body there = (whole now name events body there, rw there refl)

further_shows : (now place word : ℕ) (peer : Peer) (key : List ℕ) (number : ℕ) (octets : List ℕ)
    (events : List Event) (body : List ℕ)
    → (number == 0) ≡ false
    → upload (peer, key) events ≡ Some body
    → upload_of now (event_at place now word (note.Piece peer key number octets) ∷ events)
    (peer, key)
    ≡ Some (record { name = (peer, key); body = body ++ octets; moment = now })
unfolding live_upload upload
further_shows now place word peer key number octets events body z whole =
    rw (is_same_request-refl (peer, key), z, whole, young_now now) refl

goes_on : (now place word : ℕ) (peer : Peer) (key : List ℕ) (number : ℕ) (octets : List ℕ)
    (events : List Event) (us : List Upload) (body : List ℕ)
    → (number == 0) ≡ false
    → live_upload now (peer, key) events ≡ Some body → UploadsStandFor now events us
    → young_uploads now (gone_on now (peer, key) octets us)
    ≡ uploads_at now (event_at place now word (note.Piece peer key number octets) ∷ events)
unfolding gone_on uploads_at uploads
goes_on now place word peer key number octets events us body z there stands =
    young-grown now name octets us
    ∙ (ap (changed_first (is_of name) (with_block octets now)) stands.live
    ∙ (grown_shown name octets now (upload_of now events) f
    (λ n u h. (upload_of-shows now events n u h).0)
    (λ n s. other_upload now e events n (piece_of_other peer key number octets n s) s) was shows.1
    grown (uploads events) (uploads-differ events)
    ∙ rw z (ap (filter_map f) (sym (append-nil (filter (λ n. true) (uploads events))
    ∙ filter_all (λ n. true) (uploads events)
    (each_one (λ n. true ≡ true) (λ n. refl) (uploads events)))))))
  where
    name : RequestName
    name = (peer, key)

    e : Event
    e = event_at place now word (note.Piece peer key number octets)

    f : RequestName → Option Upload
    f n = upload_of now (e ∷ events) n

    shows :
        (upload name events ≡ Some body)
        × (upload_of now events name
        ≡ Some (record {
          name = name;
          body = body;
          moment = event_moment
              (last_event (is_piece_of name) events);
        }))
    shows = live-shows now name events body there

    was : Upload
    was = record {
      name = name;
      body = body;
      moment = event_moment (last_event (is_piece_of name) events);
    }

    grown : f name ≡ Some (with_block octets now was)
    grown = further_shows now place word peer key number octets events body z shows.0

pub UploadsStandFor-gone_on : (now : ℕ) (peer : Peer) (key : List ℕ) (number : ℕ) (octets : List ℕ)
    (e : Event) (events : List Event) (us : List Upload) (body : List ℕ)
    → e.note ≡ note.Piece peer key number octets
    → e.moment ≡ now
    → (number == 0) ≡ false
    → live_upload now (peer, key) events ≡ Some body
    → UploadsStandFor now events us
    → UploadsStandFor now (e ∷ events) (gone_on now (peer, key) octets us)
UploadsStandFor-gone_on now peer key number octets e events us body is moment z there stands =
    record {
      live =
          goes_on now e.place e.word peer key number octets events us body z there stands
          ∙ ap (λ x. uploads_at now (x ∷ events))
          (sym (same_event e now (note.Piece peer key number octets) moment is));
    }

-- ---- the end of an upload

ends : (at place moment word : ℕ) (peer : Peer) (key : List ℕ) (events : List Event)
    (us : List Upload)
    → UploadsStandFor at events us
    → young_uploads at (without_upload (peer, key) us)
    ≡ uploads_at at (event_at place moment word (note.Finished peer key) ∷ events)
unfolding uploads_at uploads
ends at place moment word peer key events us stands =
    filter_swapped (λ (u : Upload). is_young at u.moment) (λ (u : Upload). not (is_of name u)) us
    ∙ (ap (without_upload name) stands.live
    ∙ (others_shown (λ u. not (is_of name u)) (λ n. not (is_same_request name n))
    (upload_of at events) f (other_tests at events name)
    (λ n k.
    let s = not_false (is_same_request name n) k in
    other_upload at e events n (end_of_other peer key n s) refl) (uploads events)
    ∙ ap (filter_map f)
    (sym (append-nil (filter (λ n. not (is_same_request name n)) (uploads events))))))
  where
    name : RequestName
    name = (peer, key)

    e : Event
    e = event_at place moment word (note.Finished peer key)

    f : RequestName → Option Upload
    f n = upload_of at (e ∷ events) n

pub UploadsStandFor-ended : (at : ℕ) (peer : Peer) (key : List ℕ) (e : Event) (events : List Event)
    (us : List Upload)
    → e.note ≡ note.Finished peer key
    → UploadsStandFor at events us → UploadsStandFor at (e ∷ events) (without_upload (peer, key) us)
UploadsStandFor-ended at peer key e events us is stands =
    record {
      live =
          ends at e.place e.moment e.word peer key events us stands
          ∙ ap (λ x. uploads_at at (x ∷ events))
          (sym (same_event e e.moment (note.Finished peer key) refl is));
    }
