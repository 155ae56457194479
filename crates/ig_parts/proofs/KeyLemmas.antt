-- The hash of each kind of key, and the value that is hashed for it.
use Rattle.std.proofs.Common.{◌≡◌, ℕ, ℤ, pos, Bool, true, false, List, Some, None, refl, sym, ap, ◌∙◌}
use Rattle.std.specs.Prelude.{bit_xor, flat_map}
use Rattle.std.specs.Int.{w32, w64, cast_signed, cast_unsigned}
use Rattle.ig_base.specs.declared.NodeId.{NodeId}
use Rattle.ig_base.specs.Hashes.{Java, units, BytesHash}
use Rattle.ig_value.specs.declared.Record.{Record}
use Rattle.ig_value.specs.declared.Value.{Value, out-Value, roll-Value, roll-out-Value}
use Rattle.ig_value.specs.declared.Value.TheVariants as value
use Rattle.ig_value.specs.declared.Value.TheOpen.{Value-F}
use Rattle.ig_value.specs.Canon.{Canon}
use Rattle.ig_parts.specs.KeyHash.{folded_bits, object_hash_of, kind_hash, KeyHash}
use Rattle.ig_parts.specs.Owner.{affinity_field, field_of, hashed_in, hashed_by_kind, hashed_value}

hash_at : (v : Value) (x : Value-F Value) → out-Value v ≡ x → KeyHash v ≡ kind_hash x
unfolding KeyHash
hash_at v x e = ap kind_hash e

pub hash_byte : (v : Value) (n : ℤ) → v ≡ value.Byte n → KeyHash v ≡ Some n
hash_byte v n e = hash_at v _ (ap out-Value e ∙ value.outs-Byte n)

pub hash_short : (v : Value) (n : ℤ) → v ≡ value.Short n → KeyHash v ≡ Some n
hash_short v n e = hash_at v _ (ap out-Value e ∙ value.outs-Short n)

pub hash_int : (v : Value) (n : ℤ) → v ≡ value.Int n → KeyHash v ≡ Some n
hash_int v n e = hash_at v _ (ap out-Value e ∙ value.outs-Int n)

pub hash_long : (v : Value) (n : ℤ) → v ≡ value.Long n → KeyHash v ≡ Some (folded_bits (cast_unsigned w64 n))
hash_long v n e = hash_at v _ (ap out-Value e ∙ value.outs-Long n)

pub hash_char : (v : Value) (n : ℕ) → v ≡ value.Char n → KeyHash v ≡ Some (pos n)
hash_char v n e = hash_at v _ (ap out-Value e ∙ value.outs-Char n)

pub hash_true : (v : Value) (b : Bool) → v ≡ value.Bool b → b ≡ true → KeyHash v ≡ Some (pos 1231)
hash_true v b e is = hash_at v _ (ap out-Value (e ∙ ap value.Bool is) ∙ value.outs-Bool true)

pub hash_false : (v : Value) (b : Bool) → v ≡ value.Bool b → b ≡ false → KeyHash v ≡ Some (pos 1237)
hash_false v b e is = hash_at v _ (ap out-Value (e ∙ ap value.Bool is) ∙ value.outs-Bool false)

pub hash_text : (v : Value) (t : List ℕ) → v ≡ value.Str t → KeyHash v ≡ Some (cast_signed w32 (Java (units t)))
hash_text v t e = hash_at v _ (ap out-Value e ∙ value.outs-Str t)

pub hash_uuid : (v : Value) (u : NodeId) → v ≡ value.Uuid u → KeyHash v ≡ Some (folded_bits (bit_xor u.most u.least))
hash_uuid v u e = hash_at v _ (ap out-Value e ∙ value.outs-Uuid u)

pub hash_object : (v : Value) (o : Record Value) → v ≡ value.Object o → KeyHash v ≡ Some (cast_signed w32 (BytesHash (flat_map Canon o.fields)))
unfolding object_hash_of
hash_object v o e = hash_at v _ (ap out-Value e ∙ value.outs-Object o)

unrouted_at : (v : Value) (x : Value-F Value) → out-Value v ≡ x → ((n : ℤ) → v ≡ value.Byte n → ⊥) → ((n : ℤ) → v ≡ value.Short n → ⊥) → ((n : ℤ) → v ≡ value.Int n → ⊥) →
    ((n : ℤ) → v ≡ value.Long n → ⊥) → ((n : ℕ) → v ≡ value.Char n → ⊥) → ((b : Bool) → v ≡ value.Bool b → ⊥) → ((t : List ℕ) → v ≡ value.Str t → ⊥) → ((u : NodeId) → v ≡ value.Uuid u → ⊥) →
    ((o : Record Value) → v ≡ value.Object o → ⊥) → kind_hash x ≡ None
unrouted_at v (Value-F.Byte n) e a b c d f g h i j = absurd (a n (sym (roll-out-Value v) ∙ ap roll-Value e ∙ value.rolls-Byte n))
unrouted_at v (Value-F.Short n) e a b c d f g h i j = absurd (b n (sym (roll-out-Value v) ∙ ap roll-Value e ∙ value.rolls-Short n))
unrouted_at v (Value-F.Int n) e a b c d f g h i j = absurd (c n (sym (roll-out-Value v) ∙ ap roll-Value e ∙ value.rolls-Int n))
unrouted_at v (Value-F.Long n) e a b c d f g h i j = absurd (d n (sym (roll-out-Value v) ∙ ap roll-Value e ∙ value.rolls-Long n))
unrouted_at v (Value-F.Char n) e a b c d f g h i j = absurd (f n (sym (roll-out-Value v) ∙ ap roll-Value e ∙ value.rolls-Char n))
unrouted_at v (Value-F.Bool n) e a b c d f g h i j = absurd (g n (sym (roll-out-Value v) ∙ ap roll-Value e ∙ value.rolls-Bool n))
unrouted_at v (Value-F.Str n) e a b c d f g h i j = absurd (h n (sym (roll-out-Value v) ∙ ap roll-Value e ∙ value.rolls-Str n))
unrouted_at v (Value-F.Uuid n) e a b c d f g h i j = absurd (i n (sym (roll-out-Value v) ∙ ap roll-Value e ∙ value.rolls-Uuid n))
unrouted_at v (Value-F.Object n) e a b c d f g h i j = absurd (j n (sym (roll-out-Value v) ∙ ap roll-Value e ∙ value.rolls-Object n))
unrouted_at v _ e a b c d f g h i j = refl

pub hash_none : (v : Value) → ((n : ℤ) → v ≡ value.Byte n → ⊥) → ((n : ℤ) → v ≡ value.Short n → ⊥) → ((n : ℤ) → v ≡ value.Int n → ⊥) → ((n : ℤ) → v ≡ value.Long n → ⊥) → ((n : ℕ) → v ≡ value.Char n → ⊥) →
    ((b : Bool) → v ≡ value.Bool b → ⊥) → ((t : List ℕ) → v ≡ value.Str t → ⊥) → ((u : NodeId) → v ≡ value.Uuid u → ⊥) → ((o : Record Value) → v ≡ value.Object o → ⊥) → KeyHash v ≡ None
hash_none v a b c d f g h i j = hash_at v (out-Value v) refl ∙ unrouted_at v (out-Value v) refl a b c d f g h i j

pub ruleset hash_rows = (hash_byte, hash_short, hash_int, hash_long, hash_char, hash_true, hash_false, hash_text, hash_uuid, hash_object)

hashed_at : (pairs : List (ℤ × ℤ)) (v : Value) (x : Value-F Value) → out-Value v ≡ x → hashed_value pairs v ≡ hashed_by_kind pairs v x
unfolding hashed_value
hashed_at pairs v x e = ap (hashed_by_kind pairs v) e

pub hashed_object : (pairs : List (ℤ × ℤ)) (v : Value) (o : Record Value) → v ≡ value.Object o → hashed_value pairs v ≡ hashed_in v o (affinity_field pairs o.type_id)
hashed_object pairs v o e = hashed_at pairs v _ (ap out-Value e ∙ value.outs-Object o)

other_at : (pairs : List (ℤ × ℤ)) (v : Value) (x : Value-F Value) → out-Value v ≡ x → ((o : Record Value) → v ≡ value.Object o → ⊥) → hashed_by_kind pairs v x ≡ Some v
other_at pairs v (Value-F.Object o) e none = absurd (none o (sym (roll-out-Value v) ∙ ap roll-Value e ∙ value.rolls-Object o))
other_at pairs v _ e none = refl

pub hashed_other : (pairs : List (ℤ × ℤ)) (v : Value) → ((o : Record Value) → v ≡ value.Object o → ⊥) → hashed_value pairs v ≡ Some v
hashed_other pairs v none = hashed_at pairs v (out-Value v) refl ∙ other_at pairs v (out-Value v) refl none

pub hashed_field : (pairs : List (ℤ × ℤ)) (v : Value) (o : Record Value) (id : ℤ) → v ≡ value.Object o → affinity_field pairs o.type_id ≡ Some id → hashed_value pairs v ≡ field_of o.shape o.fields id
hashed_field pairs v o id e some = hashed_object pairs v o e ∙ ap (hashed_in v o) some

pub hashed_itself : (pairs : List (ℤ × ℤ)) (v : Value) (o : Record Value) → v ≡ value.Object o → affinity_field pairs o.type_id ≡ None → hashed_value pairs v ≡ Some v
hashed_itself pairs v o e none = hashed_object pairs v o e ∙ ap (hashed_in v o) none

pub ruleset hashed_rows = (hashed_field, hashed_itself, hashed_other)
