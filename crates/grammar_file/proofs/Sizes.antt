-- How many bytes the parts of a file have at most.
use Rattle.std.proofs.Common.{◌≡◌, ℕ, zero, suc, ◌+◌, ◌*◌, ◌/◌, ◌<◌, ◌≤◌, ◌^◌, List, [], ◌∷◌, ◌++◌, length, refl, arith, length-append}
use Rattle.std.specs.Prelude.{Bool, true, false, nat_lt}
use Rattle.std.proofs.lemmas.List.Sums.{sum_by-cons}
use Rattle.std.proofs.lemmas.Bool.Decides.{nat_tests}
use Rattle.std.specs.List.{flat_map}
use Rattle.plain_tree.specs.declared.kind.Kind.{Kind}
use Rattle.rule_arena.specs.declared.label.Label.{Label}
use Rattle.slt_grammar.specs.Grammars.{whole}
use Rattle.slt_grammar.specs.declared.rules.Rule.{Rule}
use Rattle.grammar_file.specs.Numbers.{number_bytes}
use Rattle.grammar_file.specs.FileBytes.{list_bytes, text_bytes, name_bytes, rule_bytes, listed_file_bytes}
use Rattle.text_list.specs.Dictionaries.{ListedTexts}
use Rattle.grammar_file.proofs.NumberLemmas.{one-most, more-most}
use Rattle.grammar_file.proofs.Listing.{sizes, sizes-same}

abbrev pub name_size : Kind × List ℕ → ℕ
name_size pair = 2 ^ 63 + 11

abbrev pub text_size : List ℕ → ℕ
text_size text = 2 ^ 63 + 10

abbrev pub label_size : Label → ℕ
label_size label = 11

abbrev pub rule_size : Rule → ℕ
rule_size R = 1 + 11 * length R.body

-- the first number with so many bytes and one more
abbrev above : ℕ → ℕ
above zero = 1
above (suc most) = 128 * above most

number-most : (most n : ℕ) (test : Bool) → nat_lt n 128 ≡ test → n < above (suc most) → length (number_bytes n) ≤ suc most
number-most most n true e h =
    let less : n < 128 = grind (arith, nat_tests) in
    omega (arith, one-most n less)
number-most zero n false e h =
    let large : 128 ≤ n = grind (arith, nat_tests) in
    absurd (omega arith)
number-most (suc most) n false e h =
    let large : 128 ≤ n = grind (arith, nat_tests) in
    more-most n (suc most) (number-most most (n / 128) (nat_lt (n / 128) 128) refl (omega arith)) large

-- ten bytes are enough below 2 ^ 64
pub number-ten : (n : ℕ) → n < 2 ^ 64 → length (number_bytes n) ≤ 10
number-ten n h = number-most 9 n (nat_lt n 128) refl (omega arith)

-- the rules' bytes by their nodes
pub sizes-rules : (G : List Rule) → sizes rule_size G ≡ length G + 11 * whole G
sizes-rules [] = refl
sizes-rules (R ∷ Rs) = omega (arith, sizes-rules Rs, sum_by-cons (λ (S : Rule). length S.body) R Rs)

pub length-text : (text : List ℕ) → length text < 2 ^ 63 → length (text_bytes text) ≤ text_size text
length-text text h = omega (arith, length-append (number_bytes (length text)) text, number-ten (length text) (omega arith))

pub length-name : (kind : Kind) (name : List ℕ) → length name < 2 ^ 63 → length (name_bytes (kind, name)) ≤ name_size (kind, name)
length-name kind name h = omega (arith, length-text name h)

length-list : {A : Type 0} (f : A → List ℕ) (size : A → ℕ) (xs : List A) (most : ℕ) → length xs < 2 ^ 64 → length (flat_map f xs) ≤ sizes size xs → sizes size xs ≤ most
    → length (list_bytes f xs) ≤ 10 + most
length-list f size xs most few h k = omega (arith, length-append (number_bytes (length xs)) (flat_map f xs), number-ten (length xs) few)

pub length-names : (names : List (Kind × List ℕ)) → length names < 2 ^ 63 → length (flat_map name_bytes names) ≤ sizes name_size names → length (list_bytes name_bytes names) < 2 ^ 126 + 2 ^ 68
length-names names few h =
    let k : sizes name_size names ≤ (2 ^ 63 + 11) * 2 ^ 63 = omega (arith, sizes-same (2 ^ 63 + 11) names) in
    omega (arith, length-list name_bytes name_size names _ (omega arith) h k)

pub length-texts : (texts : List (List ℕ)) → length texts < 2 ^ 64 → length (flat_map text_bytes texts) ≤ sizes text_size texts → length (list_bytes text_bytes texts) < 2 ^ 127 + 2 ^ 68
length-texts texts few h =
    let k : sizes text_size texts ≤ (2 ^ 63 + 10) * 2 ^ 64 = omega (arith, sizes-same (2 ^ 63 + 10) texts) in
    omega (arith, length-list text_bytes text_size texts _ few h k)

pub length-rules : (G : List Rule) → length G < 2 ^ 64 → whole G < 2 ^ 63 → length (flat_map rule_bytes G) ≤ sizes rule_size G → length (list_bytes rule_bytes G) < 2 ^ 68
length-rules G few nodes h =
    let k : sizes rule_size G ≤ 2 ^ 67 = omega (arith, sizes-rules G) in
    omega (arith, length-list rule_bytes rule_size G _ few h k)

-- a number's bytes are no more than ten
abbrev pub number_size : ℕ → ℕ
number_size n = 10

pub length-numbers : (ns : List ℕ) → length ns < 2 ^ 64 → length (flat_map number_bytes ns) ≤ sizes number_size ns → length (list_bytes number_bytes ns) < 2 ^ 68
length-numbers ns few h =
    let k : sizes number_size ns ≤ 10 * 2 ^ 64 = omega (arith, sizes-same 10 ns) in
    omega (arith, length-list number_bytes number_size ns _ few h k)

pub length-file : (names : List (Kind × List ℕ)) (G : List Rule) (d : ListedTexts) → length (list_bytes name_bytes names) < 2 ^ 126 + 2 ^ 68 → length (list_bytes rule_bytes G) < 2 ^ 68
    → length (list_bytes text_bytes d.different) < 2 ^ 127 + 2 ^ 68 → length (list_bytes number_bytes d.places) < 2 ^ 68 → length (listed_file_bytes names G d) < 2 ^ 128
length-file names G d h k l m =
    let rules = list_bytes rule_bytes G in
    let texts = list_bytes text_bytes d.different in
    let places = list_bytes number_bytes d.places in
    omega (arith, length-append (list_bytes name_bytes names) (rules ++ (texts ++ places)), length-append rules (texts ++ places), length-append texts places)
