use Rattle.ig_ops.proofs.ask_body.put_call.Goals as goal

pub returns-in-Get : goal.returns-in-Get
returns-in-Get g c = rw c.in-Get.is c.put_key.ensures

pub returns-in-Put : goal.returns-in-Put
returns-in-Put g c = rw c.in-Put.is c.put_two.ensures

pub returns-in-PutIfAbsent : goal.returns-in-PutIfAbsent
returns-in-PutIfAbsent g c = rw c.in-PutIfAbsent.is c.put_two-in-PutIfAbsent.ensures

pub returns-in-GetAll : goal.returns-in-GetAll
returns-in-GetAll g c = rw (c.in-GetAll.is, ← c.as_slice.ensures) c.put_keys.ensures

pub returns-in-PutAll : goal.returns-in-PutAll
returns-in-PutAll g c = rw (c.in-PutAll.is, ← c.as_slice-in-PutAll.ensures) c.put_pairs.ensures

pub returns-in-GetAndPut : goal.returns-in-GetAndPut
returns-in-GetAndPut g c = rw c.in-GetAndPut.is c.put_two-in-GetAndPut.ensures

pub returns-in-GetAndReplace : goal.returns-in-GetAndReplace
returns-in-GetAndReplace g c = rw c.in-GetAndReplace.is c.put_two-in-GetAndReplace.ensures

pub returns-in-GetAndRemove : goal.returns-in-GetAndRemove
returns-in-GetAndRemove g c = rw c.in-GetAndRemove.is c.put_key-in-GetAndRemove.ensures

pub returns-in-GetAndPutIfAbsent : goal.returns-in-GetAndPutIfAbsent
returns-in-GetAndPutIfAbsent g c = rw c.in-GetAndPutIfAbsent.is c.put_two-in-GetAndPutIfAbsent.ensures

pub returns-in-Replace : goal.returns-in-Replace
returns-in-Replace g c = rw c.in-Replace.is c.put_two-in-Replace.ensures

pub returns-in-ReplaceIfEquals : goal.returns-in-ReplaceIfEquals
returns-in-ReplaceIfEquals g c = rw c.in-ReplaceIfEquals.is c.put_three.ensures

pub returns-in-ContainsKey : goal.returns-in-ContainsKey
returns-in-ContainsKey g c = rw c.in-ContainsKey.is c.put_key-in-ContainsKey.ensures

pub returns-in-ContainsKeys : goal.returns-in-ContainsKeys
returns-in-ContainsKeys g c = rw (c.in-ContainsKeys.is, ← c.as_slice-in-ContainsKeys.ensures) c.put_keys-in-ContainsKeys.ensures

pub returns-in-Clear : goal.returns-in-Clear
returns-in-Clear g c = rw c.in-Clear.is c.put_cache.ensures

pub returns-in-ClearKey : goal.returns-in-ClearKey
returns-in-ClearKey g c = rw c.in-ClearKey.is c.put_key-in-ClearKey.ensures

pub returns-in-ClearKeys : goal.returns-in-ClearKeys
returns-in-ClearKeys g c = rw (c.in-ClearKeys.is, ← c.as_slice-in-ClearKeys.ensures) c.put_keys-in-ClearKeys.ensures

pub returns-in-RemoveKey : goal.returns-in-RemoveKey
returns-in-RemoveKey g c = rw c.in-RemoveKey.is c.put_key-in-RemoveKey.ensures

pub returns-in-RemoveIfEquals : goal.returns-in-RemoveIfEquals
returns-in-RemoveIfEquals g c = rw c.in-RemoveIfEquals.is c.put_two-in-RemoveIfEquals.ensures

pub returns-in-RemoveKeys : goal.returns-in-RemoveKeys
returns-in-RemoveKeys g c = rw (c.in-RemoveKeys.is, ← c.as_slice-in-RemoveKeys.ensures) c.put_keys-in-RemoveKeys.ensures

pub returns-in-RemoveAll : goal.returns-in-RemoveAll
returns-in-RemoveAll g c = rw c.in-RemoveAll.is c.put_cache-in-RemoveAll.ensures

pub returns-in-Size : goal.returns-in-Size
returns-in-Size g c = rw (c.in-Size.is, ← c.as_slice-in-Size.ensures) c.put_modes.ensures
