-- Each word of the table.
use Rattle.std.proofs.Common.{◌≡◌, ℕ, ℤ, List, ◌∷◌, ◌++◌, sym, ap, ◌∙◌, rules, to_z, of_z, w32}
use Rattle.std.specs.Fmt.{decimal}
use Rattle.std.proofs.lemmas.List.{append-nil}
use Rattle.std.proofs.lemmas.Result.{on_ok_weaker}
use Rattle.ig_value.specs.Part.{i32}
use Rattle.ig_caches.specs.declared.call.Call.TheVariants as calls
use Rattle.ig_text.specs.TextOf.{TextOf}
use Rattle.ig_text.specs.Tokens.{quoted, scalar_text}
use Rattle.ig_lines.specs.declared.word.Word.TheVariants as word
use Rattle.ig_lines.specs.Arguments.{space, numbered_text, pair_text}
use Rattle.ig_lines.specs.ShownText.{spaced}
use Rattle.ig_lines.specs.Words.{text_of}
use Rattle.ig_lines.proofs.WriteLineLemmas.{put_after_one, put_after_two, put_after_three, call_text, cache_text}
use Rattle.ig_lines.proofs.writer.put_call.Goals as goal

pub returns-in-Get : goal.returns-in-Get
returns-in-Get c =
    let given : ℤ = to_z w32 (of_z w32 c.in-Get.cache) in
    let same : given ≡ c.in-Get.cache = search rules in
    on_ok_weaker c.put_key.result (λ e. e ∙ cache_text (λ (z : ℤ). calls.Get z c.in-Get.key) c.args.call.now c.args.out.now c.in-Get.cache given same c.in-Get.is) c.put_key.ensures

pub returns-in-GetAndRemove : goal.returns-in-GetAndRemove
returns-in-GetAndRemove c =
    let given : ℤ = to_z w32 (of_z w32 c.in-GetAndRemove.cache) in
    let same : given ≡ c.in-GetAndRemove.cache = search rules in
    on_ok_weaker c.put_key-in-GetAndRemove.result (λ e. e ∙ cache_text (λ (z : ℤ). calls.GetAndRemove z c.in-GetAndRemove.key) c.args.call.now c.args.out.now c.in-GetAndRemove.cache given same c.in-GetAndRemove.is) c.put_key-in-GetAndRemove.ensures

pub returns-in-ContainsKey : goal.returns-in-ContainsKey
returns-in-ContainsKey c =
    let given : ℤ = to_z w32 (of_z w32 c.in-ContainsKey.cache) in
    let same : given ≡ c.in-ContainsKey.cache = search rules in
    on_ok_weaker c.put_key-in-ContainsKey.result (λ e. e ∙ cache_text (λ (z : ℤ). calls.ContainsKey z c.in-ContainsKey.key) c.args.call.now c.args.out.now c.in-ContainsKey.cache given same c.in-ContainsKey.is) c.put_key-in-ContainsKey.ensures

pub returns-in-ClearKey : goal.returns-in-ClearKey
returns-in-ClearKey c =
    let given : ℤ = to_z w32 (of_z w32 c.in-ClearKey.cache) in
    let same : given ≡ c.in-ClearKey.cache = search rules in
    on_ok_weaker c.put_key-in-ClearKey.result (λ e. e ∙ cache_text (λ (z : ℤ). calls.ClearKey z c.in-ClearKey.key) c.args.call.now c.args.out.now c.in-ClearKey.cache given same c.in-ClearKey.is) c.put_key-in-ClearKey.ensures

pub returns-in-RemoveKey : goal.returns-in-RemoveKey
returns-in-RemoveKey c =
    let given : ℤ = to_z w32 (of_z w32 c.in-RemoveKey.cache) in
    let same : given ≡ c.in-RemoveKey.cache = search rules in
    on_ok_weaker c.put_key-in-RemoveKey.result (λ e. e ∙ cache_text (λ (z : ℤ). calls.RemoveKey z c.in-RemoveKey.key) c.args.call.now c.args.out.now c.in-RemoveKey.cache given same c.in-RemoveKey.is) c.put_key-in-RemoveKey.ensures

pub returns-in-Put : goal.returns-in-Put
returns-in-Put c =
    let given : ℤ = to_z w32 (of_z w32 c.in-Put.cache) in
    let same : given ≡ c.in-Put.cache = search rules in
    on_ok_weaker c.put_two.result (λ e. e ∙ cache_text (λ (z : ℤ). calls.Put z c.in-Put.key c.in-Put.value) c.args.call.now c.args.out.now c.in-Put.cache given same c.in-Put.is) c.put_two.ensures

pub returns-in-PutIfAbsent : goal.returns-in-PutIfAbsent
returns-in-PutIfAbsent c =
    let given : ℤ = to_z w32 (of_z w32 c.in-PutIfAbsent.cache) in
    let same : given ≡ c.in-PutIfAbsent.cache = search rules in
    on_ok_weaker c.put_two-in-PutIfAbsent.result (λ e. e ∙ cache_text (λ (z : ℤ). calls.PutIfAbsent z c.in-PutIfAbsent.key c.in-PutIfAbsent.value) c.args.call.now c.args.out.now c.in-PutIfAbsent.cache given same c.in-PutIfAbsent.is) c.put_two-in-PutIfAbsent.ensures

pub returns-in-GetAndPut : goal.returns-in-GetAndPut
returns-in-GetAndPut c =
    let given : ℤ = to_z w32 (of_z w32 c.in-GetAndPut.cache) in
    let same : given ≡ c.in-GetAndPut.cache = search rules in
    on_ok_weaker c.put_two-in-GetAndPut.result (λ e. e ∙ cache_text (λ (z : ℤ). calls.GetAndPut z c.in-GetAndPut.key c.in-GetAndPut.value) c.args.call.now c.args.out.now c.in-GetAndPut.cache given same c.in-GetAndPut.is) c.put_two-in-GetAndPut.ensures

pub returns-in-GetAndReplace : goal.returns-in-GetAndReplace
returns-in-GetAndReplace c =
    let given : ℤ = to_z w32 (of_z w32 c.in-GetAndReplace.cache) in
    let same : given ≡ c.in-GetAndReplace.cache = search rules in
    on_ok_weaker c.put_two-in-GetAndReplace.result (λ e. e ∙ cache_text (λ (z : ℤ). calls.GetAndReplace z c.in-GetAndReplace.key c.in-GetAndReplace.value) c.args.call.now c.args.out.now c.in-GetAndReplace.cache given same c.in-GetAndReplace.is) c.put_two-in-GetAndReplace.ensures

pub returns-in-GetAndPutIfAbsent : goal.returns-in-GetAndPutIfAbsent
returns-in-GetAndPutIfAbsent c =
    let given : ℤ = to_z w32 (of_z w32 c.in-GetAndPutIfAbsent.cache) in
    let same : given ≡ c.in-GetAndPutIfAbsent.cache = search rules in
    on_ok_weaker c.put_two-in-GetAndPutIfAbsent.result (λ e. e ∙ cache_text (λ (z : ℤ). calls.GetAndPutIfAbsent z c.in-GetAndPutIfAbsent.key c.in-GetAndPutIfAbsent.value) c.args.call.now c.args.out.now c.in-GetAndPutIfAbsent.cache given same c.in-GetAndPutIfAbsent.is) c.put_two-in-GetAndPutIfAbsent.ensures

pub returns-in-Replace : goal.returns-in-Replace
returns-in-Replace c =
    let given : ℤ = to_z w32 (of_z w32 c.in-Replace.cache) in
    let same : given ≡ c.in-Replace.cache = search rules in
    on_ok_weaker c.put_two-in-Replace.result (λ e. e ∙ cache_text (λ (z : ℤ). calls.Replace z c.in-Replace.key c.in-Replace.value) c.args.call.now c.args.out.now c.in-Replace.cache given same c.in-Replace.is) c.put_two-in-Replace.ensures

pub returns-in_ok-put_two-in-ReplaceIfEquals : goal.returns-in_ok-put_two-in-ReplaceIfEquals
returns-in_ok-put_two-in-ReplaceIfEquals c =
    let given : ℤ = to_z w32 (of_z w32 c.in-ReplaceIfEquals.cache) in
    let same : given ≡ c.in-ReplaceIfEquals.cache = search rules in
    on_ok_weaker c.put_spaced.result (λ e. put_after_three c.args.out.now c.put_two-in-ReplaceIfEquals.new.out c.put_spaced.new.out (text_of word.ReplaceIf) (space ∷ numbered_text given) (space ∷ TextOf c.in-ReplaceIfEquals.key) (space ∷ TextOf c.in-ReplaceIfEquals.wanted) (space ∷ TextOf c.in-ReplaceIfEquals.value) c.in_ok-put_two-in-ReplaceIfEquals.ensures e ∙ cache_text (λ (z : ℤ). calls.ReplaceIfEquals z c.in-ReplaceIfEquals.key c.in-ReplaceIfEquals.wanted c.in-ReplaceIfEquals.value) c.args.call.now c.args.out.now c.in-ReplaceIfEquals.cache given same c.in-ReplaceIfEquals.is) c.put_spaced.ensures

pub returns-in-RemoveIfEquals : goal.returns-in-RemoveIfEquals
returns-in-RemoveIfEquals c =
    let given : ℤ = to_z w32 (of_z w32 c.in-RemoveIfEquals.cache) in
    let same : given ≡ c.in-RemoveIfEquals.cache = search rules in
    on_ok_weaker c.put_two-in-RemoveIfEquals.result (λ e. e ∙ cache_text (λ (z : ℤ). calls.RemoveIfEquals z c.in-RemoveIfEquals.key c.in-RemoveIfEquals.wanted) c.args.call.now c.args.out.now c.in-RemoveIfEquals.cache given same c.in-RemoveIfEquals.is) c.put_two-in-RemoveIfEquals.ensures

pub returns-in-GetAll : goal.returns-in-GetAll
returns-in-GetAll c =
    let given : ℤ = to_z w32 (of_z w32 c.in-GetAll.cache) in
    let same : given ≡ c.in-GetAll.cache = search rules in
    on_ok_weaker c.put_keys.result (λ e. e ∙ cache_text (λ (z : ℤ). calls.GetAll z c.as_slice.result.now) c.args.call.now c.args.out.now c.in-GetAll.cache given same (c.in-GetAll.is ∙ ap (calls.GetAll c.in-GetAll.cache) (sym c.as_slice.ensures))) c.put_keys.ensures

pub returns-in-ContainsKeys : goal.returns-in-ContainsKeys
returns-in-ContainsKeys c =
    let given : ℤ = to_z w32 (of_z w32 c.in-ContainsKeys.cache) in
    let same : given ≡ c.in-ContainsKeys.cache = search rules in
    on_ok_weaker c.put_keys-in-ContainsKeys.result (λ e. e ∙ cache_text (λ (z : ℤ). calls.ContainsKeys z c.as_slice-in-ContainsKeys.result.now) c.args.call.now c.args.out.now c.in-ContainsKeys.cache given same (c.in-ContainsKeys.is ∙ ap (calls.ContainsKeys c.in-ContainsKeys.cache) (sym c.as_slice-in-ContainsKeys.ensures))) c.put_keys-in-ContainsKeys.ensures

pub returns-in-ClearKeys : goal.returns-in-ClearKeys
returns-in-ClearKeys c =
    let given : ℤ = to_z w32 (of_z w32 c.in-ClearKeys.cache) in
    let same : given ≡ c.in-ClearKeys.cache = search rules in
    on_ok_weaker c.put_keys-in-ClearKeys.result (λ e. e ∙ cache_text (λ (z : ℤ). calls.ClearKeys z c.as_slice-in-ClearKeys.result.now) c.args.call.now c.args.out.now c.in-ClearKeys.cache given same (c.in-ClearKeys.is ∙ ap (calls.ClearKeys c.in-ClearKeys.cache) (sym c.as_slice-in-ClearKeys.ensures))) c.put_keys-in-ClearKeys.ensures

pub returns-in-RemoveKeys : goal.returns-in-RemoveKeys
returns-in-RemoveKeys c =
    let given : ℤ = to_z w32 (of_z w32 c.in-RemoveKeys.cache) in
    let same : given ≡ c.in-RemoveKeys.cache = search rules in
    on_ok_weaker c.put_keys-in-RemoveKeys.result (λ e. e ∙ cache_text (λ (z : ℤ). calls.RemoveKeys z c.as_slice-in-RemoveKeys.result.now) c.args.call.now c.args.out.now c.in-RemoveKeys.cache given same (c.in-RemoveKeys.is ∙ ap (calls.RemoveKeys c.in-RemoveKeys.cache) (sym c.as_slice-in-RemoveKeys.ensures))) c.put_keys-in-RemoveKeys.ensures

pub returns-in_ok-put_word-in-PutAll : goal.returns-in_ok-put_word-in-PutAll
returns-in_ok-put_word-in-PutAll c =
    let given : ℤ = to_z w32 (of_z w32 c.in-PutAll.cache) in
    let same : given ≡ c.in-PutAll.cache = search rules in
    on_ok_weaker c.put_pairs.result (λ e. put_after_one c.args.out.now c.put_word.new.out c.put_pairs.new.out (text_of word.PutAll) (space ∷ numbered_text given) (spaced pair_text c.as_slice-in-PutAll.result.now) c.in_ok-put_word-in-PutAll.ensures e ∙ cache_text (λ (z : ℤ). calls.PutAll z c.as_slice-in-PutAll.result.now) c.args.call.now c.args.out.now c.in-PutAll.cache given same (c.in-PutAll.is ∙ ap (calls.PutAll c.in-PutAll.cache) (sym c.as_slice-in-PutAll.ensures))) c.put_pairs.ensures

pub returns-in-Clear : goal.returns-in-Clear
returns-in-Clear c =
    let given : ℤ = to_z w32 (of_z w32 c.in-Clear.cache) in
    let same : given ≡ c.in-Clear.cache = search rules in
    on_ok_weaker c.put_word-in-Clear.result (λ e. e ∙ cache_text calls.Clear c.args.call.now c.args.out.now c.in-Clear.cache given same c.in-Clear.is) c.put_word-in-Clear.ensures

pub returns-in-RemoveAll : goal.returns-in-RemoveAll
returns-in-RemoveAll c =
    let given : ℤ = to_z w32 (of_z w32 c.in-RemoveAll.cache) in
    let same : given ≡ c.in-RemoveAll.cache = search rules in
    on_ok_weaker c.put_word-in-RemoveAll.result (λ e. e ∙ cache_text calls.RemoveAll c.args.call.now c.args.out.now c.in-RemoveAll.cache given same c.in-RemoveAll.is) c.put_word-in-RemoveAll.ensures

pub returns-in-Scan : goal.returns-in-Scan
returns-in-Scan c = sym (append-nil c.args.out.now) ∙ call_text c.args.call.now _ c.args.out.now c.in-Scan.is

pub returns-in_ok-put_word-in-Size : goal.returns-in_ok-put_word-in-Size
returns-in_ok-put_word-in-Size c =
    let given : ℤ = to_z w32 (of_z w32 c.in-Size.cache) in
    let same : given ≡ c.in-Size.cache = search rules in
    on_ok_weaker c.put_smalls.result (λ e. put_after_one c.args.out.now c.put_word-in-Size.new.out c.put_smalls.new.out (text_of word.Size) (space ∷ numbered_text given) (spaced decimal c.as_slice-in-Size.result.now) c.in_ok-put_word-in-Size.ensures e ∙ cache_text (λ (z : ℤ). calls.Size z c.as_slice-in-Size.result.now) c.args.call.now c.args.out.now c.in-Size.cache given same (c.in-Size.is ∙ ap (calls.Size c.in-Size.cache) (sym c.as_slice-in-Size.ensures))) c.put_smalls.ensures

pub returns-in-Names : goal.returns-in-Names
returns-in-Names c = on_ok_weaker c.append.result (λ e. e ∙ ap (λ (l : List ℕ). c.args.out.now ++ l) (c.text_of.ensures ∙ sym (append-nil (text_of word.Names))) ∙ call_text c.args.call.now _ c.args.out.now c.in-Names.is) c.append.ensures.ok

pub returns-in-Create : goal.returns-in-Create
returns-in-Create c = on_ok_weaker c.put_with.result (λ e. e ∙ call_text c.args.call.now _ c.args.out.now c.in-Create.is) c.put_with.ensures

pub returns-in-GetOrCreate : goal.returns-in-GetOrCreate
returns-in-GetOrCreate c = on_ok_weaker c.put_with-in-GetOrCreate.result (λ e. e ∙ call_text c.args.call.now _ c.args.out.now c.in-GetOrCreate.is) c.put_with-in-GetOrCreate.ensures

pub returns-in-Destroy : goal.returns-in-Destroy
returns-in-Destroy c =
    let given : ℤ = to_z w32 (of_z w32 c.in-Destroy.cache) in
    let same : given ≡ c.in-Destroy.cache = search rules in
    on_ok_weaker c.put_word-in-Destroy.result (λ e. e ∙ cache_text calls.Destroy c.args.call.now c.args.out.now c.in-Destroy.cache given same c.in-Destroy.is) c.put_word-in-Destroy.ensures

pub returns-in-TypeName : goal.returns-in-TypeName
returns-in-TypeName c = on_ok_weaker c.put_type.result (λ e. e ∙ call_text c.args.call.now _ c.args.out.now c.in-TypeName.is) c.put_type.ensures

pub returns-in_ok-put_type-in-SetTypeName : goal.returns-in_ok-put_type-in-SetTypeName
returns-in_ok-put_type-in-SetTypeName c =
    on_ok_weaker c.put_spaced-in-SetTypeName.result (λ e. put_after_two c.args.out.now c.put_type-in-SetTypeName.new.out c.put_spaced-in-SetTypeName.new.out (text_of word.SetTypeName) (space ∷ decimal c.in-SetTypeName.platform) (space ∷ scalar_text i32 c.in-SetTypeName.type_id) (space ∷ quoted c.in-SetTypeName.name) c.in_ok-put_type-in-SetTypeName.ensures e ∙ call_text c.args.call.now _ c.args.out.now c.in-SetTypeName.is) c.put_spaced-in-SetTypeName.ensures

pub returns-in-TypeOf : goal.returns-in-TypeOf
returns-in-TypeOf c = on_ok_weaker c.put_with-in-TypeOf.result (λ e. e ∙ call_text c.args.call.now _ c.args.out.now c.in-TypeOf.is) c.put_with-in-TypeOf.ensures

pub returns-in-PutType : goal.returns-in-PutType
returns-in-PutType c = on_ok_weaker c.put_with-in-PutType.result (λ e. e ∙ call_text c.args.call.now _ c.args.out.now c.in-PutType.is) c.put_with-in-PutType.ensures

pub returns-in-Affinity : goal.returns-in-Affinity
returns-in-Affinity c = sym (append-nil c.args.out.now) ∙ call_text c.args.call.now _ c.args.out.now c.in-Affinity.is
