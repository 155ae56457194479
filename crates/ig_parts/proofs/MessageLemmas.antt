-- Message 1101: answers of reading, what a map that was read lists, and what is written is read.
use Rattle.std.proofs.Common.{◌≡◌, ℕ, ◌≤◌, ℤ, pos, negsuc, Bool, true, false, List, [], ◌∷◌, map, length, drop, None, Some, Result, Ok, Err, refl, sym, ap, subst, ◌∙◌, arith, inl, inr}
use Rattle.std.specs.Prelude.{All, IfOk, IsTrue}
use Rattle.std.proofs.lemmas.Bool.{leb-true}
use Rattle.std.proofs.lemmas.Int.{ints}
use Rattle.std.proofs.lemmas.List.Elements.{All-nil, All-cons, All-head, All-tail, All-map}
use Rattle.ig_base.specs.Numbers.{AreBytes}
use Rattle.ig_value.specs.Part.{i32}
use Rattle.ig_value.specs.Spells.{IsScalar, IsEach}
use Rattle.ig_wire.specs.declared.AskFault.{AskFault}
use Rattle.ig_wire.specs.declared.AskFault.TheVariants as fault
use Rattle.ig_wire.specs.declared.ReadFault.{ReadFault}
use Rattle.ig_wire.specs.declared.ReadFault.TheVariants as read_fault
use Rattle.ig_fields.specs.Format.{Fields}
use Rattle.ig_fields.specs.SpellsFields.{IsTested, is_within, SpellsFields}
use Rattle.ig_fields.specs.ReadingFields.{message_of}
use Rattle.ig_fields.specs.FieldBytes.{FitsFields}
use Rattle.ig_fields.specs.AsksRightly.{AsksRightly, fields_after, asked_fields, asked}
use Rattle.ig_fields.specs.AskAnswers.{AnswersAs, placed_in}
use Rattle.ig_fields.specs.ShowsRightly.{ShowsRightly, shown_by}
use Rattle.ig_fields.specs.ShownAnswers.{ShowsAs}
use Rattle.ig_fields.specs.TableLaws.{IsRowOf, IsShownBy}
use Rattle.ig_fields.proofs.AskLemmas.{asked_is_right, shown_is_right}
use Rattle.ig_fields.proofs.WrittenTableLemmas.{written_ask_read, written_asks_apart, written_result_read}
use Rattle.ig_fields.proofs.FitsLemmas.{fields_fit}
use Rattle.ig_parts.specs.declared.map.NodeParts.{NodeParts}
use Rattle.ig_parts.specs.declared.map.CacheKeys.{CacheKeys}
use Rattle.ig_parts.specs.declared.map.Group.{Group}
use Rattle.ig_parts.specs.declared.map.PartMap.{PartMap}
use Rattle.ig_parts.specs.Owner.{IsPart, HaveParts, HasParts}
use Rattle.ig_parts.specs.PartsMessages.{parts_ask, parts_row, ask_of, parts_form, listing, node_parts, group, parts_result, listing_of, lone_cache, node_parts_of, group_of, map_of, map_form, listing_fields, cache_of, node_fields, group_fields_by, group_fields, map_fields, map_filled, IsWritten, FitsMap}
use Rattle.ig_parts.specs.MessageLaws.{WrittenAskIsRead, AsksTellApart, WrittenMapIsRead, MapsTellApart, SpelledMapFits}

-- ---- answers of reading

-- what was read of the fields is the answer
placed_is_asked : (body : List ℕ) (r : Result (List ℤ) ℕ) → placed_in body r ≡ asked_fields parts_row body r
placed_is_asked body (Ok caches) = refl
placed_is_asked body (Err left) = refl

pub ask_reads : (body : List ℕ) (answer : Result (List ℤ) AskFault) → AnswersAs (placed_in body (message_of parts_ask (fields_after body))) answer → AnswersAs (asked (Some parts_row) body) answer
ask_reads body answer h = subst (λ (r : Result (List ℤ) AskFault). AnswersAs r answer) (placed_is_asked body (message_of parts_ask (fields_after body))) h

pub ask_is_right : (body : List ℕ) (answer : Result (List ℤ) AskFault) → AreBytes body → 10 ≤ length body → AnswersAs (asked (Some parts_row) body) answer → AsksRightly (Some parts_row) body answer
ask_is_right body (Ok caches) bytes le e = subst (AsksRightly (Some parts_row) body) e (asked_is_right (Some parts_row) body bytes le)
ask_is_right body (Err fault.NoMemory) bytes le e = tt
ask_is_right body (Err fault.NotMine) bytes le e = subst (AsksRightly (Some parts_row) body) e (asked_is_right (Some parts_row) body bytes le)
ask_is_right body (Err (fault.Unread place)) bytes le e = subst (AsksRightly (Some parts_row) body) e (asked_is_right (Some parts_row) body bytes le)
ask_is_right body (Err (fault.Profile profile)) bytes le e = subst (AsksRightly (Some parts_row) body) e (asked_is_right (Some parts_row) body bytes le)

pub map_is_right : (body : List ℕ) (at : ℕ) (answer : Result PartMap ReadFault) → AreBytes body → at ≤ length body → ShowsAs (shown_by map_form body at) answer → ShowsRightly map_form body at answer
map_is_right body at (Ok m) bytes le e = subst (ShowsRightly map_form body at) e (shown_is_right map_form body at bytes le)
map_is_right body at (Err read_fault.NoMemory) bytes le e = tt
map_is_right body at (Err (read_fault.Unread unread)) bytes le e = subst (ShowsRightly map_form body at) e (shown_is_right map_form body at bytes le)

-- ---- the partitions of a map that was read

within_part : (p : ℤ) → IsTrue (is_within 65535 p) → IsPart p
within_part (pos k) h = let le : k ≤ 65535 = leb-true k 65535 h in (omega (arith, ints), omega (arith, ints, le))
within_part (negsuc k) h = absurd cc

each_has : {A : Type 0} (P : List ℕ → A → Type 0) (Q : A → Type 0) → ((s : List ℕ) (x : A) → P s x → Q x) → (s : List ℕ) (xs : List A) → IsEach P s xs → All Q xs
each_has P Q one s [] h = All-nil Q
each_has P Q one s (x ∷ xs) h = All-cons Q x xs (one h.prefix x h.first) (each_has P Q one h.suffix xs h.second)

part_in : (s : List ℕ) (p : ℤ) → IsTested (IsScalar i32) (is_within 65535) s p → IsPart p
part_in s p h = within_part p h.1

node_in : (s : List ℕ) (x : Fields node_parts) → SpellsFields node_parts s x → All IsPart (node_parts_of x).parts
node_in s x h = each_has (IsTested (IsScalar i32) (is_within 65535)) IsPart part_in h.second.suffix x.1 h.second.each

group_in : (s : List ℕ) (x : Fields group) → SpellsFields group s x → HaveParts (group_of x).nodes
group_in s (inl caches) h = All-nil (λ (n : NodeParts). All IsPart n.parts)
group_in s (inr x) h =
    All-map (λ (n : NodeParts). All IsPart n.parts) node_parts_of x.1
    (each_has (SpellsFields node_parts) (λ (y : Fields node_parts). All IsPart (node_parts_of y).parts) node_in h.after.second.suffix x.1 h.after.second.each)

fields_have_parts : (s : List ℕ) (x : Fields parts_result) → SpellsFields parts_result s x → HasParts (map_of x)
fields_have_parts s x h =
    All-map (λ (g : Group). HaveParts g.nodes) group_of x.1
    (each_has (SpellsFields group) (λ (y : Fields group). HaveParts (group_of y).nodes) group_in h.second.suffix x.1 h.second.each)

pub read_has_parts : (body : List ℕ) (at : ℕ) (answer : Result PartMap ReadFault) → ShowsRightly map_form body at answer → IfOk answer HasParts
read_has_parts body at (Ok m) (x, spelled, shows) = subst HasParts shows (fields_have_parts (drop at body) x spelled)
read_has_parts body at (Err e) h = tt

-- ---- requests that were written

asks : (caches : List ℤ) → IsRowOf ask_of (λ (c : List ℤ). None) caches (parts_form caches)
asks caches = record { ask = parts_row; known = refl; fields = caches; same = refl; asks = refl; profile = refl }

pub written_ask_is_read : WrittenAskIsRead
written_ask_is_read id caches fits = written_ask_read ask_of (λ (c : List ℤ). None) id caches (parts_form caches) (asks caches) fits

pub asks_tell_apart : AsksTellApart
asks_tell_apart a b p q fa fb fp fq e = written_asks_apart ask_of (λ (c : List ℤ). None) a b p q (parts_form p) (parts_form q) fa fb (asks p) (asks q) fp fq e

-- ---- maps that were written

listings_back : (cs : List CacheKeys) → map listing_of (map listing_fields cs) ≡ cs
listings_back [] = refl
listings_back (c ∷ cs) = ap (λ (l : List CacheKeys). c ∷ l) (listings_back cs)

nodes_back : (ns : List NodeParts) → map node_parts_of (map node_fields ns) ≡ ns
nodes_back [] = refl
nodes_back (n ∷ ns) = ap (λ (l : List NodeParts). n ∷ l) (nodes_back ns)

abbrev HasNoPairs : CacheKeys → Type 0
HasNoPairs c = c.pairs ≡ []

abbrev with_pairs : CacheKeys → List (ℤ × ℤ) → CacheKeys
with_pairs c pairs = record { cache = c.cache; pairs = pairs }

lone_back : (cs : List CacheKeys) → All HasNoPairs cs → map lone_cache (map cache_of cs) ≡ cs
lone_back [] h = refl
lone_back (c ∷ cs) h =
    ap (λ (d : CacheKeys). d ∷ map lone_cache (map cache_of cs)) (ap (with_pairs c) (sym (All-head HasNoPairs c cs h)))
    ∙ ap (λ (l : List CacheKeys). c ∷ l) (lone_back cs (All-tail HasNoPairs c cs h))

abbrev group_with : Bool → List CacheKeys → List NodeParts → Group
group_with applicable caches nodes = record { applicable = applicable; caches = caches; nodes = nodes }

group_back_by : (b : Bool) (g : Group) → g.applicable ≡ b → IsWritten g → group_of (group_fields_by b g) ≡ g
group_back_by true g e w =
    ap (λ (l : List CacheKeys). group_with true l (map node_parts_of (map node_fields g.nodes))) (listings_back g.caches)
    ∙ ap (group_with true g.caches) (nodes_back g.nodes)
    ∙ ap (λ (b : Bool). group_with b g.caches g.nodes) (sym e)
group_back_by false g e w =
    let alone = w e in
    ap (λ (l : List CacheKeys). group_with false l []) (lone_back g.caches alone.0)
    ∙ ap (group_with false g.caches) (sym alone.1)
    ∙ ap (λ (b : Bool). group_with b g.caches g.nodes) (sym e)

groups_back : (gs : List Group) → All IsWritten gs → map group_of (map group_fields gs) ≡ gs
groups_back [] h = refl
groups_back (g ∷ gs) h =
    ap (λ (x : Group). x ∷ map group_of (map group_fields gs)) (group_back_by g.applicable g refl (All-head IsWritten g gs h))
    ∙ ap (λ (l : List Group). g ∷ l) (groups_back gs (All-tail IsWritten g gs h))

map_back : (m : PartMap) → All IsWritten m.groups → map_of (map_fields m) ≡ m
map_back m h = ap (λ (gs : List Group). record { told = m.told; groups = gs }) (groups_back m.groups h)

shows : (m : PartMap) → FitsMap m → IsShownBy map_form m (map_filled m)
shows m fits = record { fields = map_fields m; same = refl; shows = map_back m fits.groups }

pub written_map_is_read : WrittenMapIsRead
written_map_is_read m head fits = written_result_read map_form m (map_filled m) head (shows m fits) fits.fields

abbrev read_map : PartMap → Result PartMap ReadFault
read_map m = Ok m

read_is : (m n : PartMap) → read_map m ≡ read_map n → m ≡ n
read_is m n e = cc

pub maps_tell_apart : MapsTellApart
maps_tell_apart m n first second e =
    read_is m n (sym (written_map_is_read m [] first) ∙ ap (λ (s : List ℕ). shown_by map_form s 0) e ∙ written_map_is_read n [] second)

-- ---- maps that were read

listing_fields_back : (xs : List (Fields listing)) → map listing_fields (map listing_of xs) ≡ xs
listing_fields_back [] = refl
listing_fields_back (x ∷ xs) = ap (λ (l : List (Fields listing)). x ∷ l) (listing_fields_back xs)

node_fields_back : (xs : List (Fields node_parts)) → map node_fields (map node_parts_of xs) ≡ xs
node_fields_back [] = refl
node_fields_back (x ∷ xs) = ap (λ (l : List (Fields node_parts)). x ∷ l) (node_fields_back xs)

lone_fields_back : (xs : List ℤ) → map cache_of (map lone_cache xs) ≡ xs
lone_fields_back [] = refl
lone_fields_back (x ∷ xs) = ap (λ (l : List ℤ). x ∷ l) (lone_fields_back xs)

abbrev caches_alone : List ℤ → Fields group
caches_alone caches = inl caches

abbrev both_lists : List (Fields listing) → List (Fields node_parts) → Fields group
both_lists caches nodes = inr (caches, nodes)

group_fields_back : (x : Fields group) → group_fields (group_of x) ≡ x
group_fields_back (inl caches) = ap caches_alone (lone_fields_back caches)
group_fields_back (inr x) =
    ap (λ (l : List (Fields listing)). both_lists l (map node_fields (map node_parts_of x.1))) (listing_fields_back x.0)
    ∙ ap (both_lists x.0) (node_fields_back x.1)

groups_fields_back : (xs : List (Fields group)) → map group_fields (map group_of xs) ≡ xs
groups_fields_back [] = refl
groups_fields_back (x ∷ xs) =
    ap (λ (y : Fields group). y ∷ map group_fields (map group_of xs)) (group_fields_back x)
    ∙ ap (λ (l : List (Fields group)). x ∷ l) (groups_fields_back xs)

lone_caches_have_none : (caches : List ℤ) → All HasNoPairs (map lone_cache caches)
lone_caches_have_none [] = All-nil HasNoPairs
lone_caches_have_none (c ∷ cs) = All-cons HasNoPairs (lone_cache c) (map lone_cache cs) refl (lone_caches_have_none cs)

group_is_written : (x : Fields group) → IsWritten (group_of x)
group_is_written (inl caches) h = (lone_caches_have_none caches, refl)
group_is_written (inr x) h = absurd cc

groups_are_written : (xs : List (Fields group)) → All IsWritten (map group_of xs)
groups_are_written [] = All-nil IsWritten
groups_are_written (x ∷ xs) = All-cons IsWritten (group_of x) (map group_of xs) (group_is_written x) (groups_are_written xs)

pub spelled_map_fits : SpelledMapFits
spelled_map_fits s x small h =
    let back : map_fields (map_of x) ≡ x = ap (λ (gs : List (Fields group)). (x.0, gs)) (groups_fields_back x.1) in
    record { fields = subst (FitsFields parts_result) (sym back) (fields_fit parts_result s x small h); groups = groups_are_written x.1 }
