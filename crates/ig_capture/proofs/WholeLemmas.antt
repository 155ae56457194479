-- What is read of a whole capture is what its records say.
use Rattle.std.proofs.Common.{◌≡◌, ℕ, zero, suc, ◌+◌, ◌-◌, ◌≤◌, ◌<◌, ℤ, pos, negsuc, Bool, true, false, ◌&&◌, List, [], ◌∷◌, ◌++◌, length, take, drop, Option, Some, None, Result, Ok, Err, refl, sym, ap, subst, ◌∙◌, arith, append-nil, length-take-le, inl, inr}
use Rattle.std.proofs.lemmas.Bool.{cases_Bool, cases_lt, lt-ltb, le-ltb, leb-true, cond-true, cond-false, and_parts}
use Rattle.std.proofs.lemmas.List.{take_all, take-append-drop, length-drop}
use Rattle.std.proofs.Math.Bool.{and-false}
use Rattle.std.specs.Prelude.{nat_lt, nat_le, ◌==◌, if◌then◌else◌}
use Rattle.std.specs.Str.{bytes_eq}
use Rattle.std.specs.Int.{w32}
use Rattle.ig_base.specs.Numbers.{number_at}
use Rattle.ig_base.proofs.NumberLemmas.{number_at-enough, number_at-short}
use Rattle.ig_frame.specs.Streams.{place_of}
use Rattle.ig_capture.specs.declared.fault.CaptureBad.{CaptureBad}
use Rattle.ig_capture.specs.declared.fault.CaptureBad.TheVariants as bad
use Rattle.ig_capture.specs.declared.fault.CaptureFault.TheVariants as fault
use Rattle.ig_capture.specs.declared.field.Field.{Field}
use Rattle.ig_capture.specs.declared.field.Field.TheVariants.{Magic, Side, Session, Count, Bytes}
use Rattle.ig_capture.specs.Records as records
use Rattle.ig_capture.specs.Records.{Piece, Records, magic, sessions, most_bytes, within, wrong_at, after_piece, bytes_from, count_from, count_at, session_from, session_at, record_from, records_from, records_of}
use Rattle.ig_capture.specs.Said.{Said, silent, and_then}
use Rattle.ig_capture.specs.Sessions as state
use Rattle.ig_capture.specs.Sessions.{hear_at}
use Rattle.ig_capture.specs.EndText.{wrong_line, cuts_of}
use Rattle.ig_capture.specs.Reading.{Reading, fresh_reading, Read, next_field, malformed, numbered, magic_whole, session_whole, count_whole, read_byte, read_bytes, wrong_end, end_of, State, Going, Stopped, fresh_state, settled, fed, finished}
use Rattle.ig_capture.specs.CaptureText.{hear_pieces, heard, first_wrong, end_text, WrongIn, CaptureLines, CaptureText}
use Rattle.ig_capture.specs.CaptureLaws.{GivesText, GivesLines, answer_for}
use Rattle.ig_capture.proofs.SaidLemmas.{assoc, same_next}
use Rattle.ig_capture.proofs.ReadLemmas.{read_pieces, read_run, left_after, in_bytes}

-- ---- what agrees

-- where reading a capture leads, by where its records lead
abbrev Agrees : Result Reading CaptureBad → Result (List state.Session) CaptureBad → Option ℕ → Type 0
Agrees (Err why) to wrong = first_wrong to wrong ≡ Some why
Agrees (Ok r) (Err why) wrong = ⊥
Agrees (Ok r) (Ok ss) None = (r.field ≡ Side) × (r.sessions ≡ ss)
Agrees (Ok r) (Ok ss) (Some place) = wrong_end r r.field ≡ Some (bad.Stream place)

record ReadsAs (x : Read) (h : Said (List state.Session) CaptureBad) (wrong : Option ℕ) : Type 0 where
  text : x.1 ≡ h.1
  agrees : Agrees x.0 h.0 wrong

-- the same of a list of records
abbrev ReadsRecords : Read → List state.Session → Records → Type 0
ReadsRecords x ss rs = ReadsAs x (hear_pieces ss rs.pieces) rs.wrong

first_then : (h : Said (List state.Session) CaptureBad) (f : List state.Session → Read) (g : List state.Session → Said (List state.Session) CaptureBad) (wrong : Option ℕ)
    → ((ss : List state.Session) → ReadsAs (f ss) (g ss) wrong) → ReadsAs (and_then h f) (and_then h g) wrong
first_then (Err why, t) f g wrong each = record { text = refl; agrees = refl }
first_then (Ok ss, t) f g wrong each = record { text = ap (λ (u : List ℕ). t ++ u) (each ss).text; agrees = (each ss).agrees }

-- ---- fields

-- the field that begins at this place
abbrev at_field : Field → ℕ → List state.Session → Reading
at_field field place ss = record { field = field; place = place_of place; came = []; sessions = ss }

next_at : (r : Reading) (field : Field) (place further : ℕ) → r.place ≡ place_of place → next_field r field further ≡ at_field field (place + further) r.sessions
next_at r field place further is =
    ap (λ (p : ℕ). record { field = field; place = p; came = []; sessions = r.sessions }) (omega (arith, is))

-- a field that is out of range
wrong_here : (place : ℕ) (ss : List state.Session) → ReadsRecords (Err (bad.Stream (place_of place)), []) ss (wrong_at place)
wrong_here place ss = record { text = refl; agrees = refl }

-- a capture that ends inside a field
ends_inside : (r : Reading) (place : ℕ) → wrong_end r r.field ≡ Some (bad.Stream (place_of place)) → ReadsRecords (silent r) r.sessions (wrong_at place)
ends_inside r place is = record { text = refl; agrees = is }

-- the first four bytes decide a number
first_four : (a b c d : ℕ) (rest : List ℕ) → number_at w32 (a ∷ b ∷ c ∷ d ∷ rest) 0 ≡ number_at w32 (a ∷ b ∷ c ∷ d ∷ []) 0
first_four a b c d rest = number_at-enough (a ∷ b ∷ c ∷ d ∷ rest) (omega arith) ∙ sym (number_at-enough (a ∷ b ∷ c ∷ d ∷ []) (omega arith))

within_least : (least most n : ℕ) (z : Option ℤ) → within least most z ≡ Some n → least ≤ n
within_least least most n None is = absurd (cc)
within_least least most n (Some (negsuc k)) is = absurd (cc)
within_least least most n (Some (pos k)) is = elim (cases_Bool (nat_le least k && nat_le k most)) [
  | inl fits ↦
      let some = cond-true (nat_le least k && nat_le k most) (Some k) None fits in
      let same : Some k ≡ Some n = sym some ∙ is in
      let k_is : k ≡ n = cc in
      omega (arith, k_is, leb-true least k (and_parts (nat_le least k) (nat_le k most) fits).0)
  | inr out ↦ let none = cond-false (nat_le least k && nat_le k most) (Some k) None out in absurd (cc)
]

none_short : (least most : ℕ) (s : List ℕ) → length s < 4 → within least most (number_at w32 s 0) ≡ None
none_short least most s short = ap (within least most) (number_at-short s short)

-- a number that is read, or is out of range
by_number : (r : Reading) (field : ℕ → Field) (place : ℕ) (o : Option ℕ) (f : Reading → Read) (rs : Option ℕ → Records) → r.place ≡ place_of place
    → rs None ≡ wrong_at place
    → ((n : ℕ) → o ≡ Some n → ReadsRecords (f (at_field (field n) (place + 4) r.sessions)) r.sessions (rs (Some n)))
    → ReadsRecords (and_then (numbered r field o) f) r.sessions (rs o)
by_number r field place None f rs is none each =
    subst (λ (q : Records). ReadsRecords (Err (bad.Stream r.place), []) r.sessions q) (sym none)
    (subst (λ (p : ℕ). ReadsRecords (Err (bad.Stream p), []) r.sessions (wrong_at place)) (sym is) (wrong_here place r.sessions))
by_number r field place (Some n) f rs is none each =
    subst (λ (q : Reading). ReadsRecords (f q) r.sessions (rs (Some n))) (sym (next_at r (field n) place 4 is)) (each n refl)

-- ---- a record

module _ (later : ℕ → List ℕ → Records) (fuel : ℕ)
    (reads_later : (place : ℕ) (ss : List state.Session) (s : List ℕ) → length s ≤ fuel → ReadsRecords (read_bytes (at_field Side place ss) s) ss (later place s)) where
  -- its bytes
  reads_bytes : (server : Bool) (session n place : ℕ) (ss : List state.Session) (s : List ℕ) → 1 ≤ n → length s ≤ fuel
      → ReadsRecords (read_bytes (at_field (Bytes server session n n) place ss) s) ss (bytes_from later place server session n s)
  reads_bytes server session n place ss [] some low = ends_inside (at_field (Bytes server session n n) place ss) place refl
  reads_bytes server session zero place ss (b ∷ s) some low = absurd (omega (arith, some))
  reads_bytes server session (suc k) place ss (b ∷ s) some low =
      elim (cases_lt (suc (length s)) (suc k)) [
        | inl short ↦
            let all : take (suc k) (b ∷ s) ≡ b ∷ s = take_all (suc k) (b ∷ s) (omega (arith, short)) in
            let rest : bytes_from later place server session (suc k) (b ∷ s) ≡ after_piece (record { server = server; session = session; bytes = b ∷ s }) (wrong_at place) =
            ap (λ (l : List ℕ). after_piece (record { server = server; session = session; bytes = l }) (if nat_lt (suc (length s)) (suc k) then wrong_at place else later (place + suc k) (drop (suc k) (b ∷ s)))) all
            ∙ ap (λ (q : Records). after_piece (record { server = server; session = session; bytes = b ∷ s }) q)
            (cond-true (nat_lt (suc (length s)) (suc k)) (wrong_at place) (later (place + suc k) (drop (suc k) (b ∷ s))) (lt-ltb _ _ short)) in
            let run = read_run server session (suc k) (suc k) (at_field Side place ss) b s (omega (arith, short)) in
            subst (λ (q : Records). ReadsRecords (read_bytes (at_field (Bytes server session (suc k) (suc k)) place ss) (b ∷ s)) ss q) (sym rest)
            (subst (λ (x : Read). ReadsRecords x ss (after_piece (record { server = server; session = session; bytes = b ∷ s }) (wrong_at place))) (sym run)
            (first_then (hear_at ss session server (b ∷ s)) (left_after server session (suc k) (suc k) (suc (length s)) (at_field Side place ss)) silent (Some (place_of place))
            (λ heard. subst (λ (q : Reading). ReadsAs (silent q) (silent heard) (Some (place_of place)))
            (sym (cond-true (nat_lt (suc (length s)) (suc k)) (in_bytes server session (suc k) (suc k - suc (length s)) (at_field Side place heard)) (next_field (at_field Side place heard) Side (suc k)) (lt-ltb _ _ short)))
            (record { text = refl; agrees = refl }))))
        | inr long ↦
            let rest : bytes_from later place server session (suc k) (b ∷ s) ≡ after_piece (record { server = server; session = session; bytes = b ∷ take k s }) (later (place + suc k) (drop k s)) =
            ap (λ (q : Records). after_piece (record { server = server; session = session; bytes = b ∷ take k s }) q)
            (cond-false (nat_lt (suc (length s)) (suc k)) (wrong_at place) (later (place + suc k) (drop k s)) (le-ltb _ _ long)) in
            let size : length (take k s) ≡ k = length-take-le k s (omega (arith, long)) in
            let whole : b ∷ s ≡ (b ∷ take k s) ++ drop k s = ap (λ (l : List ℕ). b ∷ l) (sym (take-append-drop k s)) in
            let run = read_run server session (suc k) (suc k) (at_field Side place ss) b (take k s) (omega (arith, size)) in
            let read : read_bytes (at_field (Bytes server session (suc k) (suc k)) place ss) (b ∷ s) ≡ and_then (hear_at ss session server (b ∷ take k s)) (λ heard. read_bytes (at_field Side (place + suc k) heard) (drop k s)) =
            ap (read_bytes (at_field (Bytes server session (suc k) (suc k)) place ss)) whole
            ∙ read_pieces (at_field (Bytes server session (suc k) (suc k)) place ss) (b ∷ take k s) (drop k s)
            ∙ ap (λ (x : Read). and_then x (λ next. read_bytes next (drop k s))) run
            ∙ assoc (hear_at ss session server (b ∷ take k s)) (left_after server session (suc k) (suc k) (suc (length (take k s))) (at_field Side place ss)) (λ next. read_bytes next (drop k s))
            ∙ same_next (hear_at ss session server (b ∷ take k s)) (λ heard. and_then (left_after server session (suc k) (suc k) (suc (length (take k s))) (at_field Side place ss) heard) (λ next. read_bytes next (drop k s)))
            (λ heard. read_bytes (at_field Side (place + suc k) heard) (drop k s))
            (λ heard. ap (λ (q : Reading). read_bytes q (drop k s))
            (cond-false (nat_lt (suc (length (take k s))) (suc k)) (in_bytes server session (suc k) (suc k - suc (length (take k s))) (at_field Side place heard)) (next_field (at_field Side place heard) Side (suc k)) (le-ltb _ _ (omega (arith, size)))
            ∙ next_at (at_field Side place heard) Side place (suc k) refl)) in
            subst (λ (q : Records). ReadsRecords (read_bytes (at_field (Bytes server session (suc k) (suc k)) place ss) (b ∷ s)) ss q) (sym rest)
            (subst (λ (x : Read). ReadsRecords x ss (after_piece (record { server = server; session = session; bytes = b ∷ take k s }) (later (place + suc k) (drop k s)))) (sym read)
            (first_then (hear_at ss session server (b ∷ take k s)) (λ heard. read_bytes (at_field Side (place + suc k) heard) (drop k s)) (λ heard. hear_pieces heard (later (place + suc k) (drop k s)).pieces)
            (later (place + suc k) (drop k s)).wrong (λ heard. reads_later (place + suc k) heard (drop k s) (omega (arith, low, length-drop k s)))))
      ]

  -- the number of its bytes
  reads_count : (server : Bool) (session place : ℕ) (ss : List state.Session) (s : List ℕ) → length s ≤ fuel
      → ReadsRecords (read_bytes (at_field (Count server session) place ss) s) ss (count_at later place server session s)
  reads_count server session place ss [] low = ends_inside (at_field (Count server session) place ss) place refl
  reads_count server session place ss (a ∷ []) low =
      subst (λ o. ReadsRecords (read_bytes (at_field (Count server session) place ss) (a ∷ [])) ss (count_from later place server session o (a ∷ []))) (sym (none_short 1 most_bytes (a ∷ []) (omega arith)))
      (ends_inside (record (at_field (Count server session) place ss) { came = a ∷ [] }) place refl)
  reads_count server session place ss (a ∷ b ∷ []) low =
      subst (λ o. ReadsRecords (read_bytes (at_field (Count server session) place ss) (a ∷ b ∷ [])) ss (count_from later place server session o (a ∷ b ∷ []))) (sym (none_short 1 most_bytes (a ∷ b ∷ []) (omega arith)))
      (ends_inside (record (at_field (Count server session) place ss) { came = a ∷ b ∷ [] }) place refl)
  reads_count server session place ss (a ∷ b ∷ c ∷ []) low =
      subst (λ o. ReadsRecords (read_bytes (at_field (Count server session) place ss) (a ∷ b ∷ c ∷ [])) ss (count_from later place server session o (a ∷ b ∷ c ∷ []))) (sym (none_short 1 most_bytes (a ∷ b ∷ c ∷ []) (omega arith)))
      (ends_inside (record (at_field (Count server session) place ss) { came = a ∷ b ∷ c ∷ [] }) place refl)
  reads_count server session place ss (a ∷ b ∷ c ∷ d ∷ s) low =
      let number = within 1 most_bytes (number_at w32 (a ∷ b ∷ c ∷ d ∷ []) 0) in
      subst (λ o. ReadsRecords (read_bytes (at_field (Count server session) place ss) (a ∷ b ∷ c ∷ d ∷ s)) ss (count_from later place server session o (a ∷ b ∷ c ∷ d ∷ s)))
      (ap (within 1 most_bytes) (sym (first_four a b c d s)))
      (by_number (record (at_field (Count server session) place ss) { came = a ∷ b ∷ c ∷ [] }) (λ n. Bytes server session n n) place number (λ next. read_bytes next s)
      (λ o. count_from later place server session o (a ∷ b ∷ c ∷ d ∷ s)) refl refl
      (λ n is. reads_bytes server session n (place + 4) ss s (within_least 1 most_bytes n (number_at w32 (a ∷ b ∷ c ∷ d ∷ []) 0) is) (omega (arith, low))))

  -- its session
  reads_session : (server : Bool) (place : ℕ) (ss : List state.Session) (s : List ℕ) → length s ≤ fuel
      → ReadsRecords (read_bytes (at_field (Session server) place ss) s) ss (session_at later place server s)
  reads_session server place ss [] low = ends_inside (at_field (Session server) place ss) place refl
  reads_session server place ss (a ∷ []) low =
      subst (λ o. ReadsRecords (read_bytes (at_field (Session server) place ss) (a ∷ [])) ss (session_from later place server o (a ∷ []))) (sym (none_short 0 (sessions - 1) (a ∷ []) (omega arith)))
      (ends_inside (record (at_field (Session server) place ss) { came = a ∷ [] }) place refl)
  reads_session server place ss (a ∷ b ∷ []) low =
      subst (λ o. ReadsRecords (read_bytes (at_field (Session server) place ss) (a ∷ b ∷ [])) ss (session_from later place server o (a ∷ b ∷ []))) (sym (none_short 0 (sessions - 1) (a ∷ b ∷ []) (omega arith)))
      (ends_inside (record (at_field (Session server) place ss) { came = a ∷ b ∷ [] }) place refl)
  reads_session server place ss (a ∷ b ∷ c ∷ []) low =
      subst (λ o. ReadsRecords (read_bytes (at_field (Session server) place ss) (a ∷ b ∷ c ∷ [])) ss (session_from later place server o (a ∷ b ∷ c ∷ []))) (sym (none_short 0 (sessions - 1) (a ∷ b ∷ c ∷ []) (omega arith)))
      (ends_inside (record (at_field (Session server) place ss) { came = a ∷ b ∷ c ∷ [] }) place refl)
  reads_session server place ss (a ∷ b ∷ c ∷ d ∷ s) low =
      let number = within 0 (sessions - 1) (number_at w32 (a ∷ b ∷ c ∷ d ∷ []) 0) in
      subst (λ o. ReadsRecords (read_bytes (at_field (Session server) place ss) (a ∷ b ∷ c ∷ d ∷ s)) ss (session_from later place server o (a ∷ b ∷ c ∷ d ∷ s)))
      (ap (within 0 (sessions - 1)) (sym (first_four a b c d s)))
      (by_number (record (at_field (Session server) place ss) { came = a ∷ b ∷ c ∷ [] }) (λ n. Count server n) place number (λ next. read_bytes next s)
      (λ o. session_from later place server o (a ∷ b ∷ c ∷ d ∷ s)) refl refl
      (λ n is. reads_count server n (place + 4) ss s (omega (arith, low))))

  -- its side
  reads_side : (place : ℕ) (ss : List state.Session) (side : ℕ) (s : List ℕ) → length s ≤ fuel
      → ReadsRecords (read_bytes (at_field Side place ss) (side ∷ s)) ss (record_from later place (side ∷ s))
  reads_side place ss side s low = by_side (nat_lt side 2)
    where
      by_side : (b : Bool) → ReadsRecords (and_then (if b then silent (next_field (at_field Side place ss) (Session (side == 1)) 1) else malformed (at_field Side place ss)) (λ next. read_bytes next s)) ss
          (if b then session_at later (place + 1) (side == 1) s else wrong_at place)
      by_side false = wrong_here place ss
      by_side true =
          subst (λ (q : Reading). ReadsRecords (read_bytes q s) ss (session_at later (place + 1) (side == 1) s)) (sym (next_at (at_field Side place ss) (Session (side == 1)) place 1 refl))
          (reads_session (side == 1) (place + 1) ss s low)

-- ---- records

no_record : (place : ℕ) (ss : List state.Session) → ReadsRecords (silent (at_field Side place ss)) ss records.nothing_more
no_record place ss = record { text = refl; agrees = (refl, refl) }

reads_records : (fuel place : ℕ) (ss : List state.Session) (s : List ℕ) → length s ≤ fuel → ReadsRecords (read_bytes (at_field Side place ss) s) ss (records_from fuel place s)
reads_records zero place ss [] low = no_record place ss
reads_records zero place ss (b ∷ s) low = absurd (omega (arith, low))
reads_records (suc fuel) place ss [] low = no_record place ss
reads_records (suc fuel) place ss (b ∷ s) low = reads_side (records_from fuel) fuel (reads_records fuel) place ss b s (omega (arith, low))

-- ---- a capture

no_magic : (s : List ℕ) → bytes_eq (take 4 s) magic ≡ false → records_of s ≡ wrong_at 0
no_magic s other = cond-false (bytes_eq (take 4 s) magic) (records_from (length s) 4 (drop 4 s)) (wrong_at 0) other

short_magic : (s : List ℕ) (r : Reading) → bytes_eq (take 4 s) magic ≡ false → read_bytes fresh_reading s ≡ silent r → wrong_end r r.field ≡ Some (bad.Stream 0) → r.sessions ≡ []
    → ReadsRecords (read_bytes fresh_reading s) [] (records_of s)
short_magic s r other read ends none =
    subst (λ (x : Read). ReadsRecords x [] (records_of s)) (sym read)
    (subst (λ (q : Records). ReadsRecords (silent r) [] q) (sym (no_magic s other)) (record { text = refl; agrees = ends }))

reads_capture : (s : List ℕ) → ReadsRecords (read_bytes fresh_reading s) [] (records_of s)
reads_capture [] = short_magic [] fresh_reading refl refl refl refl
reads_capture (a ∷ []) = short_magic (a ∷ []) (record fresh_reading { came = a ∷ [] }) (and-false (a == 73)) refl refl refl
reads_capture (a ∷ b ∷ []) = short_magic (a ∷ b ∷ []) (record fresh_reading { came = a ∷ b ∷ [] }) (ap (λ x. (a == 73) && x) (and-false (b == 71)) ∙ and-false (a == 73)) refl refl refl
reads_capture (a ∷ b ∷ c ∷ []) =
    short_magic (a ∷ b ∷ c ∷ []) (record fresh_reading { came = a ∷ b ∷ c ∷ [] })
    (ap (λ x. (a == 73) && x) (ap (λ x. (b == 71) && x) (and-false (c == 67)) ∙ and-false (b == 71)) ∙ and-false (a == 73)) refl refl refl
reads_capture (a ∷ b ∷ c ∷ d ∷ s) = by_magic (bytes_eq (a ∷ b ∷ c ∷ d ∷ []) magic)
  where
    fuel : ℕ
    fuel = length (a ∷ b ∷ c ∷ d ∷ s)

    by_magic : (b' : Bool) → ReadsRecords (and_then (if b' then silent (next_field (record fresh_reading { came = a ∷ b ∷ c ∷ [] }) Side 4) else malformed (record fresh_reading { came = a ∷ b ∷ c ∷ [] })) (λ next. read_bytes next s)) []
        (if b' then records_from fuel 4 s else wrong_at 0)
    by_magic true = reads_records fuel 4 [] s (omega arith)
    by_magic false = wrong_here 0 []

-- ---- the text

-- what was said and what the end adds
record GivesBoth (x : Read) (h : Said (List state.Session) CaptureBad) (wrong : Option ℕ) : Type 0 where
  text : h.1 ++ end_text h.0 (first_wrong h.0 wrong) ≡ (settled x).1 ++ (finished (settled x).0).1
  answer : (finished (settled x).0).0 ≡ answer_for (first_wrong h.0 wrong)

gives_both : (x : Read) (h : Said (List state.Session) CaptureBad) (wrong : Option ℕ) → ReadsAs x h wrong → GivesBoth x h wrong
gives_both (Err why, t) (Ok ss, u) wrong reads = record {
  text =
      ap (λ (w : Option CaptureBad). u ++ end_text (Ok ss) w) reads.agrees ∙ ap (λ (l : List ℕ). l ++ wrong_line why) (sym reads.text)
      ∙ sym (append-nil (t ++ wrong_line why));
  answer = ap answer_for (sym reads.agrees);
}
gives_both (Err why, t) (Err first, u) wrong reads = record {
  text =
      ap (λ (w : Option CaptureBad). u ++ end_text (Err first) w) reads.agrees ∙ ap (λ (l : List ℕ). l ++ wrong_line why) (sym reads.text)
      ∙ sym (append-nil (t ++ wrong_line why));
  answer = ap answer_for (sym reads.agrees);
}
gives_both (Ok r, t) (Err why, u) wrong reads = absurd reads.agrees
gives_both (Ok r, t) (Ok ss, u) None reads =
    let end : finished (Going r) ≡ end_of r None = ap (λ (f : Field). end_of r (wrong_end r f)) reads.agrees.0 in record {
      text = ap (λ (l : List ℕ). l ++ cuts_of ss) (sym reads.text) ∙ ap (λ (l : List state.Session). t ++ cuts_of l) (sym reads.agrees.1) ∙ ap (λ e. t ++ e.1) (sym end);
      answer = ap (λ e. e.0) end;
    }
gives_both (Ok r, t) (Ok ss, u) (Some place) reads =
    let end : finished (Going r) ≡ end_of r (Some (bad.Stream place)) = ap (end_of r) reads.agrees in record {
      text = ap (λ (l : List ℕ). l ++ wrong_line (bad.Stream place)) (sym reads.text) ∙ ap (λ e. t ++ e.1) (sym end);
      answer = ap (λ e. e.0) end;
    }

pub gives_text : (capture : List ℕ) → GivesText capture
unfolding CaptureText CaptureLines WrongIn
gives_text capture =
    let both = gives_both (read_bytes fresh_reading capture) (heard (records_of capture)) (records_of capture).wrong (reads_capture capture) in
    record { text = both.text; answer = both.answer }

-- while it goes on
going_lines : (x : Read) (h : Said (List state.Session) CaptureBad) (wrong : Option ℕ) (r : Reading) → ReadsAs x h wrong → (settled x).0 ≡ Going r → (settled x).1 ≡ h.1
going_lines (Err why, t) h wrong r reads going = absurd (cc)
going_lines (Ok q, t) h wrong r reads going = reads.text

pub gives_lines : (capture : List ℕ) → GivesLines capture
unfolding CaptureLines
gives_lines capture r going = going_lines (read_bytes fresh_reading capture) (heard (records_of capture)) (records_of capture).wrong r (reads_capture capture) going
