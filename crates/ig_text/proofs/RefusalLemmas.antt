-- What no item of a list begins with: a byte that closes a list; and only null begins with an n.
use Rattle.std.proofs.Common.{◌≡◌, ℕ, zero, suc, Bool, true, false, List, [], ◌∷◌, Option, Some, None, Ok, Err, refl}
use Rattle.std.specs.Int.{w16, w32, w64, from_be_bytes}
use Rattle.ig_value.specs.declared.value.Value.{Value}
use Rattle.ig_value.specs.Part.{Scalar, i8, i16, i32, i64, u16, u32, u64, truth}
use Rattle.ig_text.specs.Tokens.{colon, minus, equals}
use Rattle.ig_text.specs.ReadText.{Read, ◌>>=◌, mapped_read, mark_at, joined_at, pair_at, run_at, scalar_at, stamp_at, decimal_at, uuid_at, quoted_at, optional_at, octets_at, entry_at, value_at}
use Rattle.ig_text.proofs.ReadsLemmas.{Refuses, RefusesNone, bind_ok, done}

-- a byte that an item does not begin with
pub data Stop : Type 0 where
  bracket brace letter_n : Stop

abbrev pub byte_of_stop : Stop → ℕ
byte_of_stop bracket = 93
byte_of_stop brace = 125
byte_of_stop letter_n = 110

-- the reader takes nothing that begins with such a byte, and nothing where nothing is left
pub record Begins {A : Type 0} (R : List ℕ → Read A) : Type 0 where
  pub refuses : (stop : Stop) → Refuses R (byte_of_stop stop)
  pub none : RefusesNone R

pair_refuses : (upper : Bool) (stop : Stop) → Refuses (pair_at upper) (byte_of_stop stop)
pair_refuses true bracket [] z e = cc
pair_refuses true bracket (c ∷ s) z e = cc
pair_refuses true brace [] z e = cc
pair_refuses true brace (c ∷ s) z e = cc
pair_refuses true letter_n [] z e = cc
pair_refuses true letter_n (c ∷ s) z e = cc
pair_refuses false bracket [] z e = cc
pair_refuses false bracket (c ∷ s) z e = cc
pair_refuses false brace [] z e = cc
pair_refuses false brace (c ∷ s) z e = cc
pair_refuses false letter_n [] z e = cc
pair_refuses false letter_n (c ∷ s) z e = cc

run_begins : (upper : Bool) (n : ℕ) → Begins (run_at upper (suc n))
run_begins upper n = record {
  refuses = λ stop s z e.
      let a = bind_ok (pair_at upper (byte_of_stop stop ∷ s)) (λ x. run_at upper n x.1 >>= λ xs. done (x.0 ∷ xs.0, xs.1)) z e in
      pair_refuses upper stop s a.0 a.1;
  none = λ z e. cc;
}

pub mapped_begins : {A B : Type 0} (f : A → B) (R : List ℕ → Read A) → Begins R → Begins (λ s. mapped_read f (R s))
mapped_begins f R p = record {
  refuses = λ stop s z e. let a = bind_ok (R (byte_of_stop stop ∷ s)) (λ x. done (f x.0, x.1)) z e in p.refuses stop s a.0 a.1;
  none = λ z e. let a = bind_ok (R []) (λ x. done (f x.0, x.1)) z e in p.none a.0 a.1;
}

pub joined_begins : {A B : Type 0} (R : List ℕ → Read A) (b : ℕ) (Q : List ℕ → Read B) → Begins R → Begins (joined_at R b Q)
joined_begins R b Q p = record {
  refuses = λ stop s z e. let a = bind_ok (R (byte_of_stop stop ∷ s)) (λ x. mark_at b x.1 >>= λ m. Q m.1 >>= λ y. done ((x.0, y.0), y.1)) z e in p.refuses stop s a.0 a.1;
  none = λ z e. let a = bind_ok (R []) (λ x. mark_at b x.1 >>= λ m. Q m.1 >>= λ y. done ((x.0, y.0), y.1)) z e in p.none a.0 a.1;
}

signed_refuses8 : (stop : Stop) → Refuses (scalar_at i8) (byte_of_stop stop)
signed_refuses8 bracket s z e = cc
signed_refuses8 brace s z e = cc
signed_refuses8 letter_n s z e = cc

signed_refuses16 : (stop : Stop) → Refuses (scalar_at i16) (byte_of_stop stop)
signed_refuses16 bracket s z e = cc
signed_refuses16 brace s z e = cc
signed_refuses16 letter_n s z e = cc

signed_refuses32 : (stop : Stop) → Refuses (scalar_at i32) (byte_of_stop stop)
signed_refuses32 bracket s z e = cc
signed_refuses32 brace s z e = cc
signed_refuses32 letter_n s z e = cc

signed_refuses64 : (stop : Stop) → Refuses (scalar_at i64) (byte_of_stop stop)
signed_refuses64 bracket s z e = cc
signed_refuses64 brace s z e = cc
signed_refuses64 letter_n s z e = cc

truth_refuses : (stop : Stop) → Refuses (scalar_at truth) (byte_of_stop stop)
truth_refuses bracket s z e = cc
truth_refuses brace s z e = cc
truth_refuses letter_n s z e = cc

quoted_refuses : (stop : Stop) → Refuses quoted_at (byte_of_stop stop)
quoted_refuses bracket s z e = cc
quoted_refuses brace s z e = cc
quoted_refuses letter_n s z e = cc

pub scalar_begins : (k : Scalar) → Begins (scalar_at k)
scalar_begins i8 = record { refuses = signed_refuses8; none = λ z e. cc }
scalar_begins i16 = record { refuses = signed_refuses16; none = λ z e. cc }
scalar_begins i32 = record { refuses = signed_refuses32; none = λ z e. cc }
scalar_begins i64 = record { refuses = signed_refuses64; none = λ z e. cc }
scalar_begins u16 = mapped_begins (from_be_bytes w16) (run_at true 2) (run_begins true 1)
scalar_begins u32 = mapped_begins (from_be_bytes w32) (run_at true 4) (run_begins true 3)
scalar_begins u64 = mapped_begins (from_be_bytes w64) (run_at true 8) (run_begins true 7)
scalar_begins truth = record { refuses = truth_refuses; none = λ z e. cc }

pub quoted_begins : Begins quoted_at
quoted_begins = record { refuses = quoted_refuses; none = λ z e. cc }

pub uuid_begins : Begins uuid_at
uuid_begins =
    mapped_begins _ (joined_at (run_at false 4) minus (joined_at (run_at false 2) minus (joined_at (run_at false 2) minus (joined_at (run_at false 2) minus (run_at false 6)))))
    (joined_begins (run_at false 4) minus (joined_at (run_at false 2) minus (joined_at (run_at false 2) minus (joined_at (run_at false 2) minus (run_at false 6)))) (run_begins false 3))

pub stamp_begins : Begins stamp_at
stamp_begins = mapped_begins _ (joined_at (scalar_at i64) colon (scalar_at i32)) (joined_begins (scalar_at i64) colon (scalar_at i32) (scalar_begins i64))

pub decimal_begins : Begins decimal_at
decimal_begins = mapped_begins _ (joined_at (scalar_at i32) colon octets_at) (joined_begins (scalar_at i32) colon octets_at (scalar_begins i32))

-- ---- null, or a part

pub optional_refuses : {A : Type 0} (R : List ℕ → Read A) → Begins R → Refuses (optional_at R) 93
optional_refuses R p s z e = let a = bind_ok (R (93 ∷ s)) (λ x. done (Some x.0, x.1)) z e in p.refuses bracket s a.0 a.1

pub optional_none : {A : Type 0} (R : List ℕ → Read A) → Begins R → RefusesNone (optional_at R)
optional_none R p z e = let a = bind_ok (R []) (λ x. done (Some x.0, x.1)) z e in p.none a.0 a.1

-- ---- values

pub value_refuses_bracket : (levels : ℕ) → Refuses (value_at levels) 93
value_refuses_bracket zero s z e = cc
value_refuses_bracket (suc levels) s z e = cc

pub value_refuses_brace : (levels : ℕ) → Refuses (value_at levels) 125
value_refuses_brace zero s z e = cc
value_refuses_brace (suc levels) s z e = cc

pub value_none : (levels : ℕ) → RefusesNone (value_at levels)
value_none zero z e = cc
value_none (suc levels) z e = cc
