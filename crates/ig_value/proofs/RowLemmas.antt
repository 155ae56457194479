-- Each row of the table: the value that is built has this code and content, and a value is built of
-- its own.
use Rattle.std.proofs.Common.{◌≡◌, ◌≢◌, ℕ, Bool, true, false, cond, List, [], ◌∷◌, Option, Some, None, eqb, refl, sym, ap, ◌∙◌}
use Rattle.std.specs.List.{find}
use Rattle.std.proofs.lemmas.Bool.{eqb-true}
use Rattle.ig_value.specs.declared.code.Code.{Code}
use Rattle.ig_value.specs.declared.code.Code.TheVariants as code
use Rattle.ig_value.specs.declared.value.Value.{Value, out-Value, roll-Value, roll-out-Value}
use Rattle.ig_value.specs.declared.value.Value.TheVariants as value
use Rattle.ig_value.specs.declared.value.Value.TheOpen.{Value-F}
use Rattle.ig_value.specs.Part.{Content}
use Rattle.ig_value.specs.Table.{byte_of, content, parts, value_with, codes, code_at}

abbrev pub Row : Type 0
Row = (c : Code) × Content Value (content c)

pub built : (c : Code) (x : Content Value (content c)) → parts (out-Value (value_with c x)) ≡ (c, x)
built code.Byte x = ap parts (value.outs-Byte x)
built code.Short x = ap parts (value.outs-Short x)
built code.Int x = ap parts (value.outs-Int x)
built code.Long x = ap parts (value.outs-Long x)
built code.Float x = ap parts (value.outs-Float x)
built code.Double x = ap parts (value.outs-Double x)
built code.Char x = ap parts (value.outs-Char x)
built code.Bool x = ap parts (value.outs-Bool x)
built code.Str x = ap parts (value.outs-Str x)
built code.Uuid x = ap parts (value.outs-Uuid x)
built code.Date x = ap parts (value.outs-Date x)
built code.Bytes x = ap parts (value.outs-Bytes x.1)
built code.Shorts x = ap parts (value.outs-Shorts x.1)
built code.Ints x = ap parts (value.outs-Ints x.1)
built code.Longs x = ap parts (value.outs-Longs x.1)
built code.Floats x = ap parts (value.outs-Floats x.1)
built code.Doubles x = ap parts (value.outs-Doubles x.1)
built code.Chars x = ap parts (value.outs-Chars x.1)
built code.Bools x = ap parts (value.outs-Bools x.1)
built code.Strs x = ap parts (value.outs-Strs x.1)
built code.Uuids x = ap parts (value.outs-Uuids x.1)
built code.Dates x = ap parts (value.outs-Dates x.1)
built code.Objects x = ap parts (value.outs-Objects x.0 x.1.1)
built code.Collection x = ap parts (value.outs-Collection x.0 x.1)
built code.Map x = ap parts (value.outs-Map x.0 x.1)
built code.Wrapped x = ap parts (value.outs-Wrapped x.0 x.1)
built code.Enum x = ap parts (value.outs-Enum x.0 x.1)
built code.Enums x = ap parts (value.outs-Enums x.0 x.1.1)
built code.Decimal x = ap parts (value.outs-Decimal x)
built code.Decimals x = ap parts (value.outs-Decimals x.1)
built code.Timestamp x = ap parts (value.outs-Timestamp x)
built code.Timestamps x = ap parts (value.outs-Timestamps x.1)
built code.Time x = ap parts (value.outs-Time x)
built code.Times x = ap parts (value.outs-Times x.1)
built code.BinaryEnum x = ap parts (value.outs-BinaryEnum x.0 x.1)
built code.Null x = ap parts value.outs-Null
built code.Object x = ap parts (value.outs-Object x)

rolled : (x : Value-F Value) → value_with (parts x).0 (parts x).1 ≡ roll-Value x
rolled (Value-F.Byte x) = sym (value.rolls-Byte x)
rolled (Value-F.Short x) = sym (value.rolls-Short x)
rolled (Value-F.Int x) = sym (value.rolls-Int x)
rolled (Value-F.Long x) = sym (value.rolls-Long x)
rolled (Value-F.Float x) = sym (value.rolls-Float x)
rolled (Value-F.Double x) = sym (value.rolls-Double x)
rolled (Value-F.Char x) = sym (value.rolls-Char x)
rolled (Value-F.Bool x) = sym (value.rolls-Bool x)
rolled (Value-F.Str x) = sym (value.rolls-Str x)
rolled (Value-F.Uuid x) = sym (value.rolls-Uuid x)
rolled (Value-F.Date x) = sym (value.rolls-Date x)
rolled (Value-F.Bytes xs) = sym (value.rolls-Bytes xs)
rolled (Value-F.Shorts xs) = sym (value.rolls-Shorts xs)
rolled (Value-F.Ints xs) = sym (value.rolls-Ints xs)
rolled (Value-F.Longs xs) = sym (value.rolls-Longs xs)
rolled (Value-F.Floats xs) = sym (value.rolls-Floats xs)
rolled (Value-F.Doubles xs) = sym (value.rolls-Doubles xs)
rolled (Value-F.Chars xs) = sym (value.rolls-Chars xs)
rolled (Value-F.Bools xs) = sym (value.rolls-Bools xs)
rolled (Value-F.Strs xs) = sym (value.rolls-Strs xs)
rolled (Value-F.Uuids xs) = sym (value.rolls-Uuids xs)
rolled (Value-F.Dates xs) = sym (value.rolls-Dates xs)
rolled (Value-F.Objects x xs) = sym (value.rolls-Objects x xs)
rolled (Value-F.Collection x y) = sym (value.rolls-Collection x y)
rolled (Value-F.Map x y) = sym (value.rolls-Map x y)
rolled (Value-F.Wrapped x y) = sym (value.rolls-Wrapped x y)
rolled (Value-F.Enum x y) = sym (value.rolls-Enum x y)
rolled (Value-F.Enums x xs) = sym (value.rolls-Enums x xs)
rolled (Value-F.Decimal x) = sym (value.rolls-Decimal x)
rolled (Value-F.Decimals xs) = sym (value.rolls-Decimals xs)
rolled (Value-F.Timestamp x) = sym (value.rolls-Timestamp x)
rolled (Value-F.Timestamps xs) = sym (value.rolls-Timestamps xs)
rolled (Value-F.Time x) = sym (value.rolls-Time x)
rolled (Value-F.Times xs) = sym (value.rolls-Times xs)
rolled (Value-F.BinaryEnum x y) = sym (value.rolls-BinaryEnum x y)
rolled Value-F.Null = sym value.rolls-Null
rolled (Value-F.Object x) = sym (value.rolls-Object x)

pub rebuilt : (v : Value) → value_with (parts (out-Value v)).0 (parts (out-Value v)).1 ≡ v
rebuilt v = rolled (out-Value v) ∙ roll-out-Value v

-- ---- the code of a byte

found_first : (test : Code → Bool) (d c : Code) (cs : List Code) (b : Bool) → test d ≡ b → cond b (Some d) (find test cs) ≡ Some c → (find test cs ≡ Some c → test c ≡ true) → test c ≡ true
found_first test d c cs true is e later = let same : d ≡ c = cc in ap test (sym same) ∙ is
found_first test d c cs false is e later = later e

found_passes : (test : Code → Bool) (cs : List Code) (c : Code) → find test cs ≡ Some c → test c ≡ true
found_passes test [] c e = absurd cc
found_passes test (d ∷ cs) c e = found_first test d c cs (test d) refl e (found_passes test cs c)

pub code_of_byte : (b : ℕ) (c : Code) → code_at b ≡ Some c → byte_of c ≡ b
code_of_byte b c e = eqb-true (byte_of c) b (found_passes (λ d. eqb (byte_of d) b) codes c e)

pub code_again : (c : Code) → code_at (byte_of c) ≡ Some c
code_again code.Byte = refl
code_again code.Short = refl
code_again code.Int = refl
code_again code.Long = refl
code_again code.Float = refl
code_again code.Double = refl
code_again code.Char = refl
code_again code.Bool = refl
code_again code.Str = refl
code_again code.Uuid = refl
code_again code.Date = refl
code_again code.Bytes = refl
code_again code.Shorts = refl
code_again code.Ints = refl
code_again code.Longs = refl
code_again code.Floats = refl
code_again code.Doubles = refl
code_again code.Chars = refl
code_again code.Bools = refl
code_again code.Strs = refl
code_again code.Uuids = refl
code_again code.Dates = refl
code_again code.Objects = refl
code_again code.Collection = refl
code_again code.Map = refl
code_again code.Wrapped = refl
code_again code.Enum = refl
code_again code.Enums = refl
code_again code.Decimal = refl
code_again code.Decimals = refl
code_again code.Timestamp = refl
code_again code.Timestamps = refl
code_again code.Time = refl
code_again code.Times = refl
code_again code.BinaryEnum = refl
code_again code.Null = refl
code_again code.Object = refl

pub no_code : (b : ℕ) (c : Code) → code_at b ≡ None → b ≢ byte_of c
no_code b c e same = let both = sym e ∙ ap code_at same ∙ code_again c in cc

unknown_at : (b : ℕ) (o : Option Code) → code_at b ≡ o → ((c : Code) → b ≢ byte_of c) → o ≡ None
unknown_at b None is unknown = refl
unknown_at b (Some c) is unknown = absurd (unknown c (sym (code_of_byte b c is)))

pub code_unknown : (b : ℕ) → ((c : Code) → b ≢ byte_of c) → code_at b ≡ None
code_unknown b unknown = unknown_at b (code_at b) refl unknown
