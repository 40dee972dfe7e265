-- The bytes of a grammar file.
use Rattle.std.specs.Prelude.{◌≡◌, ◌⊎◌, ℕ, List, [], ◌∷◌, ◌++◌, length}
use Rattle.std.specs.List.{flat_map}
use Rattle.plain_tree.specs.declared.kind.Kind.{Kind}
use Rattle.plain_tree.specs.Tree.{kind_code}
use Rattle.slt_grammar.specs.Names.{NodeLabel, Bottom, Symbol, Call, Param}
use Rattle.slt_grammar.specs.declared.rules.Rule.{Rule}
use Rattle.text_list.specs.Dictionaries.{ListedTexts, dictionary_of}
use Rattle.grammar_file.specs.Numbers.{number_bytes}

-- TGF1, the mark of version 1
abbrev pub first_mark : List ℕ
first_mark = 84 ∷ 71 ∷ 70 ∷ 49 ∷ []

-- TGF2
abbrev pub mark : List ℕ
mark = 84 ∷ 71 ∷ 70 ∷ 50 ∷ []

-- how many there are, and then each
abbrev pub list_bytes : {A : Type 0} → (A → List ℕ) → List A → List ℕ
list_bytes f xs = number_bytes (length xs) ++ flat_map f xs

-- the length, and then the bytes
abbrev pub text_bytes : List ℕ → List ℕ
text_bytes text = number_bytes (length text) ++ text

-- one byte for the kind, and then the name
abbrev pub name_bytes : Kind × List ℕ → List ℕ
name_bytes (kind, name) = kind_code kind ∷ text_bytes name

-- a tag; behind a symbol's the place of its name, behind a call's the place of the rule
abbrev pub label_bytes : NodeLabel → List ℕ
label_bytes Bottom = 0 ∷ []
label_bytes Param = 1 ∷ []
label_bytes (Symbol name) = 2 ∷ number_bytes name
label_bytes (Call rule) = 3 ∷ number_bytes rule

-- one byte for the rank, and then the body in preorder
abbrev pub rule_bytes : Rule → List ℕ
rule_bytes R = R.rank ∷ flat_map label_bytes R.body

-- the different texts, and then for each text its place among them
abbrev pub dictionary_bytes : ListedTexts → List ℕ
dictionary_bytes d = list_bytes text_bytes d.different ++ list_bytes number_bytes d.places

-- the mark, the names, the rules, the texts by a dictionary
abbrev pub listed_file_bytes : List (Kind × List ℕ) → List Rule → ListedTexts → List ℕ
listed_file_bytes names rules d = mark ++ (list_bytes name_bytes names ++ (list_bytes rule_bytes rules ++ dictionary_bytes d))

-- in which each different text stands once, in the order of first places
abbrev pub file_bytes : List (Kind × List ℕ) → List Rule → List (List ℕ) → List ℕ
file_bytes names rules texts = listed_file_bytes names rules (dictionary_of texts)

-- the file of version 1: the mark, the names, the rules, the texts as they come
abbrev pub first_file_bytes : List (Kind × List ℕ) → List Rule → List (List ℕ) → List ℕ
first_file_bytes names rules texts = first_mark ++ (list_bytes name_bytes names ++ (list_bytes rule_bytes rules ++ list_bytes text_bytes texts))

-- these are the bytes of the parts, in either version
abbrev pub AreBytesOf : List ℕ → List (Kind × List ℕ) → List Rule → List (List ℕ) → Type 0
AreBytesOf bytes names rules texts = (bytes ≡ file_bytes names rules texts) ⊎ (bytes ≡ first_file_bytes names rules texts)
