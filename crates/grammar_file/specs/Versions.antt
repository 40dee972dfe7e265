-- The two versions of grammar files, by which part differs.
use Rattle.std.specs.Prelude.{ℕ, List}
use Rattle.text_list.specs.Dictionaries.{dictionary_of}
use Rattle.grammar_file.specs.FileBytes.{mark, first_mark, list_bytes, text_bytes, dictionary_bytes}
use Rattle.grammar_file.specs.declared.scan.Version.{Version}
use Rattle.grammar_file.specs.declared.scan.Version.TheVariants.{First, Second}

abbrev pub mark_of : Version → List ℕ
mark_of First = first_mark
mark_of Second = mark

abbrev pub texts_bytes : Version → List (List ℕ) → List ℕ
texts_bytes First texts = list_bytes text_bytes texts
texts_bytes Second texts = dictionary_bytes (dictionary_of texts)
