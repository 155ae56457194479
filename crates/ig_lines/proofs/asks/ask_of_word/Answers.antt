-- Each word of the table.
use Rattle.std.proofs.Common.{rules}
use Rattle.ig_caches.specs.declared.call.Call.TheVariants as calls
use Rattle.ig_text.proofs.ReaderStopLemmas.{answers_by}
use Rattle.ig_lines.specs.declared.word.Word.TheVariants as word
use Rattle.ig_lines.proofs.AskLemmas.{by_word, word_is, cache_ids, description_ids, key_ids, keys_ids, name_ids, nothing_ids, pairs_ids, set_type_name_ids, three_ids, two_ids, type_ids, type_name_ids}
use Rattle.ig_lines.proofs.asks.ask_of_word.Goals as goal

pub returns-in-Get : goal.returns-in-Get
returns-in-Get c = by_word _ c.call.result c.args.word word.Get c.args.text.now _ c.in-Get.is key_ids (c.call.ensures (λ x. calls.Get x.0 x.1) (λ x y p. search rules))

pub returns-in-GetAndRemove : goal.returns-in-GetAndRemove
returns-in-GetAndRemove c = by_word _ c.call-in-GetAndRemove.result c.args.word word.GetAndRemove c.args.text.now _ c.in-GetAndRemove.is key_ids (c.call-in-GetAndRemove.ensures (λ x. calls.GetAndRemove x.0 x.1) (λ x y p. search rules))

pub returns-in-Contains : goal.returns-in-Contains
returns-in-Contains c = by_word _ c.call-in-Contains.result c.args.word word.Contains c.args.text.now _ c.in-Contains.is key_ids (c.call-in-Contains.ensures (λ x. calls.ContainsKey x.0 x.1) (λ x y p. search rules))

pub returns-in-ClearKey : goal.returns-in-ClearKey
returns-in-ClearKey c = by_word _ c.call-in-ClearKey.result c.args.word word.ClearKey c.args.text.now _ c.in-ClearKey.is key_ids (c.call-in-ClearKey.ensures (λ x. calls.ClearKey x.0 x.1) (λ x y p. search rules))

pub returns-in-Remove : goal.returns-in-Remove
returns-in-Remove c = by_word _ c.call-in-Remove.result c.args.word word.Remove c.args.text.now _ c.in-Remove.is key_ids (c.call-in-Remove.ensures (λ x. calls.RemoveKey x.0 x.1) (λ x y p. search rules))

pub returns-in-Put : goal.returns-in-Put
returns-in-Put c = by_word _ c.call-in-Put.result c.args.word word.Put c.args.text.now _ c.in-Put.is two_ids (c.call-in-Put.ensures (λ x. calls.Put x.0 x.1.0 x.1.1) (λ x y p. search rules))

pub returns-in-PutIfAbsent : goal.returns-in-PutIfAbsent
returns-in-PutIfAbsent c = by_word _ c.call-in-PutIfAbsent.result c.args.word word.PutIfAbsent c.args.text.now _ c.in-PutIfAbsent.is two_ids (c.call-in-PutIfAbsent.ensures (λ x. calls.PutIfAbsent x.0 x.1.0 x.1.1) (λ x y p. search rules))

pub returns-in-GetAndPut : goal.returns-in-GetAndPut
returns-in-GetAndPut c = by_word _ c.call-in-GetAndPut.result c.args.word word.GetAndPut c.args.text.now _ c.in-GetAndPut.is two_ids (c.call-in-GetAndPut.ensures (λ x. calls.GetAndPut x.0 x.1.0 x.1.1) (λ x y p. search rules))

pub returns-in-GetAndReplace : goal.returns-in-GetAndReplace
returns-in-GetAndReplace c = by_word _ c.call-in-GetAndReplace.result c.args.word word.GetAndReplace c.args.text.now _ c.in-GetAndReplace.is two_ids (c.call-in-GetAndReplace.ensures (λ x. calls.GetAndReplace x.0 x.1.0 x.1.1) (λ x y p. search rules))

pub returns-in-GetAndPutIfAbsent : goal.returns-in-GetAndPutIfAbsent
returns-in-GetAndPutIfAbsent c = by_word _ c.call-in-GetAndPutIfAbsent.result c.args.word word.GetAndPutIfAbsent c.args.text.now _ c.in-GetAndPutIfAbsent.is two_ids (c.call-in-GetAndPutIfAbsent.ensures (λ x. calls.GetAndPutIfAbsent x.0 x.1.0 x.1.1) (λ x y p. search rules))

pub returns-in-Replace : goal.returns-in-Replace
returns-in-Replace c = by_word _ c.call-in-Replace.result c.args.word word.Replace c.args.text.now _ c.in-Replace.is two_ids (c.call-in-Replace.ensures (λ x. calls.Replace x.0 x.1.0 x.1.1) (λ x y p. search rules))

pub returns-in-ReplaceIf : goal.returns-in-ReplaceIf
returns-in-ReplaceIf c = by_word _ c.call-in-ReplaceIf.result c.args.word word.ReplaceIf c.args.text.now _ c.in-ReplaceIf.is three_ids (c.call-in-ReplaceIf.ensures (λ x. calls.ReplaceIfEquals x.0 x.1.0 x.1.1.0 x.1.1.1) (λ x y p. search rules))

pub returns-in-RemoveIf : goal.returns-in-RemoveIf
returns-in-RemoveIf c = by_word _ c.call-in-RemoveIf.result c.args.word word.RemoveIf c.args.text.now _ c.in-RemoveIf.is two_ids (c.call-in-RemoveIf.ensures (λ x. calls.RemoveIfEquals x.0 x.1.0 x.1.1) (λ x y p. search rules))

pub returns-in-GetAll : goal.returns-in-GetAll
returns-in-GetAll c = by_word _ c.call-in-GetAll.result c.args.word word.GetAll c.args.text.now _ c.in-GetAll.is keys_ids (c.call-in-GetAll.ensures (λ x. calls.GetAll x.0 x.1) (λ x y p. search rules))

pub returns-in-ContainsAll : goal.returns-in-ContainsAll
returns-in-ContainsAll c = by_word _ c.call-in-ContainsAll.result c.args.word word.ContainsAll c.args.text.now _ c.in-ContainsAll.is keys_ids (c.call-in-ContainsAll.ensures (λ x. calls.ContainsKeys x.0 x.1) (λ x y p. search rules))

pub returns-in-ClearKeys : goal.returns-in-ClearKeys
returns-in-ClearKeys c = by_word _ c.call-in-ClearKeys.result c.args.word word.ClearKeys c.args.text.now _ c.in-ClearKeys.is keys_ids (c.call-in-ClearKeys.ensures (λ x. calls.ClearKeys x.0 x.1) (λ x y p. search rules))

pub returns-in-RemoveKeys : goal.returns-in-RemoveKeys
returns-in-RemoveKeys c = by_word _ c.call-in-RemoveKeys.result c.args.word word.RemoveKeys c.args.text.now _ c.in-RemoveKeys.is keys_ids (c.call-in-RemoveKeys.ensures (λ x. calls.RemoveKeys x.0 x.1) (λ x y p. search rules))

pub returns-in-PutAll : goal.returns-in-PutAll
returns-in-PutAll c = by_word _ c.call-in-PutAll.result c.args.word word.PutAll c.args.text.now _ c.in-PutAll.is pairs_ids (c.call-in-PutAll.ensures (λ x. calls.PutAll x.0 x.1) (λ x y p. search rules))

pub returns-in-Clear : goal.returns-in-Clear
returns-in-Clear c = by_word _ c.call-in-Clear.result c.args.word word.Clear c.args.text.now _ c.in-Clear.is cache_ids (c.call-in-Clear.ensures (λ x. calls.Clear x) (λ x y p. search rules))

pub returns-in-RemoveAll : goal.returns-in-RemoveAll
returns-in-RemoveAll c = by_word _ c.call-in-RemoveAll.result c.args.word word.RemoveAll c.args.text.now _ c.in-RemoveAll.is cache_ids (c.call-in-RemoveAll.ensures (λ x. calls.RemoveAll x) (λ x y p. search rules))

pub returns-in-Names : goal.returns-in-Names
returns-in-Names c = by_word _ c.call-in-Names.result c.args.word word.Names c.args.text.now _ c.in-Names.is nothing_ids (c.call-in-Names.ensures (λ x. calls.Names) (λ x y p. search rules))

pub returns-in-Create : goal.returns-in-Create
returns-in-Create c = by_word _ c.call-in-Create.result c.args.word word.Create c.args.text.now _ c.in-Create.is name_ids (c.call-in-Create.ensures (λ x. calls.Create x) (λ x y p. search rules))

pub returns-in-GetOrCreate : goal.returns-in-GetOrCreate
returns-in-GetOrCreate c = by_word _ c.call-in-GetOrCreate.result c.args.word word.GetOrCreate c.args.text.now _ c.in-GetOrCreate.is name_ids (c.call-in-GetOrCreate.ensures (λ x. calls.GetOrCreate x) (λ x y p. search rules))

pub returns-in-Destroy : goal.returns-in-Destroy
returns-in-Destroy c = by_word _ c.call-in-Destroy.result c.args.word word.Destroy c.args.text.now _ c.in-Destroy.is cache_ids (c.call-in-Destroy.ensures (λ x. calls.Destroy x) (λ x y p. search rules))

pub returns-in-TypeName : goal.returns-in-TypeName
returns-in-TypeName c = by_word _ c.call-in-TypeName.result c.args.word word.TypeName c.args.text.now _ c.in-TypeName.is type_name_ids (c.call-in-TypeName.ensures (λ x. calls.TypeName x.0 x.1) (λ x y p. search rules))

pub returns-in-Type : goal.returns-in-Type
returns-in-Type c = by_word _ c.call-in-Type.result c.args.word word.Type c.args.text.now _ c.in-Type.is type_ids (c.call-in-Type.ensures (λ x. calls.TypeOf x) (λ x y p. search rules))

pub returns-in-SetTypeName : goal.returns-in-SetTypeName
returns-in-SetTypeName c = by_word _ c.call-in-SetTypeName.result c.args.word word.SetTypeName c.args.text.now _ c.in-SetTypeName.is set_type_name_ids (c.call-in-SetTypeName.ensures (λ x. calls.SetTypeName x.0 x.1.0 x.1.1) (λ x y p. search rules))

pub returns-in-PutType : goal.returns-in-PutType
returns-in-PutType c = by_word _ c.call-in-PutType.result c.args.word word.PutType c.args.text.now _ c.in-PutType.is description_ids (c.call-in-PutType.ensures (λ x. calls.PutType x) (λ x y p. search rules))

pub returns-in-Size : goal.returns-in-Size
returns-in-Size c = answers_by _ c.size.result _ _ (word_is c.args.word word.Size c.args.text.now c.in-Size.is) c.size.ensures

pub returns-in-Scan : goal.returns-in-Scan
returns-in-Scan c = answers_by _ c.scan.result _ _ (word_is c.args.word word.Scan c.args.text.now c.in-Scan.is) c.scan.ensures

pub returns-in-Next : goal.returns-in-Next
returns-in-Next c = answers_by _ c.next.result _ _ (word_is c.args.word word.Next c.args.text.now c.in-Next.is) c.next.ensures

pub returns-in-Close : goal.returns-in-Close
returns-in-Close c = answers_by _ c.close.result _ _ (word_is c.args.word word.Close c.args.text.now c.in-Close.is) c.close.ensures

pub returns-in-Parts : goal.returns-in-Parts
returns-in-Parts c = answers_by _ c.parts.result _ _ (word_is c.args.word word.Parts c.args.text.now c.in-Parts.is) c.parts.ensures
