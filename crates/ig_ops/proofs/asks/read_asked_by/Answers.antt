use Rattle.std.proofs.Common.{rules}
use Rattle.ig_caches.specs.declared.Call.TheVariants as call
use Rattle.ig_caches.specs.declared.Request.TheVariants.{NextPage, Close}
use Rattle.ig_ops.proofs.asks.read_asked_by.Goals as goal

pub returns-in-Get : goal.returns-in-Get
returns-in-Get c = rw c.in-Get.is (c.ask_key.ensures call.Get (λ x y p. search rules))

pub returns-in-Put : goal.returns-in-Put
returns-in-Put c = rw c.in-Put.is (c.ask_two.ensures call.Put (λ x y p. search rules))

pub returns-in-PutIfAbsent : goal.returns-in-PutIfAbsent
returns-in-PutIfAbsent c = rw c.in-PutIfAbsent.is (c.ask_two-in-PutIfAbsent.ensures call.PutIfAbsent (λ x y p. search rules))

pub returns-in-GetAll : goal.returns-in-GetAll
returns-in-GetAll c = rw c.in-GetAll.is (c.ask_keys.ensures call.GetAll (λ x y p. search rules))

pub returns-in-GetAndPut : goal.returns-in-GetAndPut
returns-in-GetAndPut c = rw c.in-GetAndPut.is (c.ask_two-in-GetAndPut.ensures call.GetAndPut (λ x y p. search rules))

pub returns-in-GetAndReplace : goal.returns-in-GetAndReplace
returns-in-GetAndReplace c = rw c.in-GetAndReplace.is (c.ask_two-in-GetAndReplace.ensures call.GetAndReplace (λ x y p. search rules))

pub returns-in-GetAndRemove : goal.returns-in-GetAndRemove
returns-in-GetAndRemove c = rw c.in-GetAndRemove.is (c.ask_key-in-GetAndRemove.ensures call.GetAndRemove (λ x y p. search rules))

pub returns-in-GetAndPutIfAbsent : goal.returns-in-GetAndPutIfAbsent
returns-in-GetAndPutIfAbsent c = rw c.in-GetAndPutIfAbsent.is (c.ask_two-in-GetAndPutIfAbsent.ensures call.GetAndPutIfAbsent (λ x y p. search rules))

pub returns-in-Replace : goal.returns-in-Replace
returns-in-Replace c = rw c.in-Replace.is (c.ask_two-in-Replace.ensures call.Replace (λ x y p. search rules))

pub returns-in-ReplaceIfEquals : goal.returns-in-ReplaceIfEquals
returns-in-ReplaceIfEquals c = rw c.in-ReplaceIfEquals.is (c.ask_three.ensures call.ReplaceIfEquals (λ x y p. search rules))

pub returns-in-ContainsKey : goal.returns-in-ContainsKey
returns-in-ContainsKey c = rw c.in-ContainsKey.is (c.ask_key-in-ContainsKey.ensures call.ContainsKey (λ x y p. search rules))

pub returns-in-ContainsKeys : goal.returns-in-ContainsKeys
returns-in-ContainsKeys c = rw c.in-ContainsKeys.is (c.ask_keys-in-ContainsKeys.ensures call.ContainsKeys (λ x y p. search rules))

pub returns-in-Clear : goal.returns-in-Clear
returns-in-Clear c = rw c.in-Clear.is (c.ask_cache.ensures call.Clear (λ x y p. search rules))

pub returns-in-ClearKey : goal.returns-in-ClearKey
returns-in-ClearKey c = rw c.in-ClearKey.is (c.ask_key-in-ClearKey.ensures call.ClearKey (λ x y p. search rules))

pub returns-in-ClearKeys : goal.returns-in-ClearKeys
returns-in-ClearKeys c = rw c.in-ClearKeys.is (c.ask_keys-in-ClearKeys.ensures call.ClearKeys (λ x y p. search rules))

pub returns-in-RemoveKey : goal.returns-in-RemoveKey
returns-in-RemoveKey c = rw c.in-RemoveKey.is (c.ask_key-in-RemoveKey.ensures call.RemoveKey (λ x y p. search rules))

pub returns-in-RemoveIfEquals : goal.returns-in-RemoveIfEquals
returns-in-RemoveIfEquals c = rw c.in-RemoveIfEquals.is (c.ask_two-in-RemoveIfEquals.ensures call.RemoveIfEquals (λ x y p. search rules))

pub returns-in-RemoveKeys : goal.returns-in-RemoveKeys
returns-in-RemoveKeys c = rw c.in-RemoveKeys.is (c.ask_keys-in-RemoveKeys.ensures call.RemoveKeys (λ x y p. search rules))

pub returns-in-RemoveAll : goal.returns-in-RemoveAll
returns-in-RemoveAll c = rw c.in-RemoveAll.is (c.ask_cache-in-RemoveAll.ensures call.RemoveAll (λ x y p. search rules))

pub returns-in-NextPage : goal.returns-in-NextPage
returns-in-NextPage c = rw c.in-NextPage.is (c.ask_cursor.ensures NextPage (λ x y p. search rules))

pub returns-in-CloseResource : goal.returns-in-CloseResource
returns-in-CloseResource c = rw c.in-CloseResource.is (c.ask_cursor-in-CloseResource.ensures Close (λ x y p. search rules))

pub returns-in-PutAll : goal.returns-in-PutAll
returns-in-PutAll c = rw c.in-PutAll.is c.ask_pairs.ensures

pub returns-in-GetSize : goal.returns-in-GetSize
returns-in-GetSize c = rw c.in-GetSize.is c.ask_modes.ensures

pub returns-in-Scan : goal.returns-in-Scan
returns-in-Scan c = rw c.in-Scan.is c.ask_scan.ensures
