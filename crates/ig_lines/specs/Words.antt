-- The words of operations, each with the arguments that follow it.
use Rattle.std.specs.Prelude.{ℕ, List, [], ◌∷◌, codes, Option}
use Rattle.std.specs.List.{find}
use Rattle.std.specs.Str.{bytes_eq}
use Rattle.ig_lines.specs.declared.word.Word.{Word}
use Rattle.ig_lines.specs.declared.word.Word.TheVariants as word
use Rattle.ig_lines.specs.Arguments.{Argument, nothing, cache, item, pair, small, page, cursor, type_id, name, quoted_text, description, both, listed}

abbrev pub text_of : Word → List ℕ
text_of word.Get = codes "get"
text_of word.GetAndRemove = codes "get-and-remove"
text_of word.Contains = codes "contains"
text_of word.ClearKey = codes "clear-key"
text_of word.Remove = codes "remove"
text_of word.Put = codes "put"
text_of word.PutIfAbsent = codes "put-if-absent"
text_of word.GetAndPut = codes "get-and-put"
text_of word.GetAndReplace = codes "get-and-replace"
text_of word.GetAndPutIfAbsent = codes "get-and-put-if-absent"
text_of word.Replace = codes "replace"
text_of word.ReplaceIf = codes "replace-if"
text_of word.RemoveIf = codes "remove-if"
text_of word.GetAll = codes "get-all"
text_of word.ContainsAll = codes "contains-all"
text_of word.ClearKeys = codes "clear-keys"
text_of word.RemoveKeys = codes "remove-keys"
text_of word.PutAll = codes "put-all"
text_of word.Clear = codes "clear"
text_of word.RemoveAll = codes "remove-all"
text_of word.Size = codes "size"
text_of word.Names = codes "names"
text_of word.Create = codes "create"
text_of word.GetOrCreate = codes "get-or-create"
text_of word.Destroy = codes "destroy"
text_of word.Scan = codes "scan"
text_of word.Next = codes "next"
text_of word.Close = codes "close"
text_of word.TypeName = codes "type-name"
text_of word.Type = codes "type"
text_of word.SetTypeName = codes "set-type-name"
text_of word.PutType = codes "put-type"
text_of word.Parts = codes "parts"

-- all words
abbrev pub words : List Word
words =
    word.Get ∷ word.GetAndRemove ∷ word.Contains ∷ word.ClearKey ∷ word.Remove ∷ word.Put ∷ word.PutIfAbsent ∷ word.GetAndPut ∷ word.GetAndReplace ∷ word.GetAndPutIfAbsent ∷ word.Replace ∷ word.ReplaceIf ∷ word.RemoveIf ∷ word.GetAll
    ∷ word.ContainsAll ∷ word.ClearKeys ∷ word.RemoveKeys ∷ word.PutAll ∷ word.Clear ∷ word.RemoveAll ∷ word.Size ∷ word.Names ∷ word.Create ∷ word.GetOrCreate ∷ word.Destroy ∷ word.Scan ∷ word.Next ∷ word.Close ∷ word.TypeName
    ∷ word.Type ∷ word.SetTypeName ∷ word.PutType ∷ word.Parts ∷ []

-- the word with this text, if any
abbrev pub word_of : List ℕ → Option Word
word_of s = find (λ w. bytes_eq s (text_of w)) words

-- ---- the arguments

abbrev pub key_arguments : Argument
key_arguments = both cache item

abbrev pub two_arguments : Argument
two_arguments = both cache (both item item)

abbrev pub keys_arguments : Argument
keys_arguments = both cache (listed item)

abbrev pub shape : Word → Argument
shape word.Get = key_arguments
shape word.GetAndRemove = key_arguments
shape word.Contains = key_arguments
shape word.ClearKey = key_arguments
shape word.Remove = key_arguments
shape word.Put = two_arguments
shape word.PutIfAbsent = two_arguments
shape word.GetAndPut = two_arguments
shape word.GetAndReplace = two_arguments
shape word.GetAndPutIfAbsent = two_arguments
shape word.Replace = two_arguments
shape word.ReplaceIf = both cache (both item (both item item))
shape word.RemoveIf = two_arguments
shape word.GetAll = keys_arguments
shape word.ContainsAll = keys_arguments
shape word.ClearKeys = keys_arguments
shape word.RemoveKeys = keys_arguments
shape word.PutAll = both cache (listed pair)
shape word.Clear = cache
shape word.RemoveAll = cache
shape word.Size = both cache (listed small)
shape word.Names = nothing
shape word.Create = name
shape word.GetOrCreate = name
shape word.Destroy = cache
shape word.Scan = both cache page
shape word.Next = cursor
shape word.Close = cursor
shape word.TypeName = both small type_id
shape word.Type = type_id
shape word.SetTypeName = both small (both type_id quoted_text)
shape word.PutType = description
shape word.Parts = listed cache
