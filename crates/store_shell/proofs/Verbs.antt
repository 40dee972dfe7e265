-- Verbs are told by the words that begin with them.
use Rattle.std.specs.Prelude.{◌≡◌, ◌==◌, ◌++◌, ◌∷◌, ℕ, suc, List, [], true, if◌then◌else◌, codes, get_or, nat_lt, refl}
use Rattle.std.proofs.Common.{ap, sym, ◌∙◌}
use Rattle.std.specs.Str.{bytes_eq}
use Rattle.store_shell.specs.Verbs.{verb_word}
use Rattle.store_shell.specs.declared.verb.Verb.{Verb}
use Rattle.store_shell.specs.declared.verb.Verb.TheVariants as verb

-- all verbs, and the place of each among them
abbrev verbs : List Verb
verbs =
    verb.Load ∷ verb.LoadGrammar ∷ verb.Save ∷ verb.SaveGrammar ∷ verb.Show ∷ verb.Query ∷ verb.Count
    ∷ verb.Rename ∷ verb.Insert ∷ verb.Append ∷ verb.Delete ∷ verb.Value ∷ verb.Attr ∷ verb.Copy
    ∷ verb.RenameAll ∷ verb.DeleteAll ∷ verb.Generate ∷ verb.Check ∷ verb.ShowAll ∷ []

abbrev pub place : Verb → ℕ
place verb.Load = 0
place verb.LoadGrammar = 1
place verb.Save = 2
place verb.SaveGrammar = 3
place verb.Show = 4
place verb.Query = 5
place verb.Count = 6
place verb.Rename = 7
place verb.Insert = 8
place verb.Append = 9
place verb.Delete = 10
place verb.Value = 11
place verb.Attr = 12
place verb.Copy = 13
place verb.RenameAll = 14
place verb.DeleteAll = 15
place verb.Generate = 16
place verb.Check = 17
place verb.ShowAll = 18

abbrev pub all_words : List (List ℕ)
all_words =
    codes "load" ∷ codes "load-grammar" ∷ codes "save" ∷ codes "save-grammar" ∷ codes "show" ∷ codes "query" ∷ codes "count"
    ∷ codes "rename" ∷ codes "insert" ∷ codes "append" ∷ codes "delete" ∷ codes "value" ∷ codes "attr" ∷ codes "copy"
    ∷ codes "rename-all" ∷ codes "delete-all" ∷ codes "generate" ∷ codes "check" ∷ codes "show-all" ∷ []

-- words up to the first space, and what stands behind it
abbrev pub first_word : List ℕ → List ℕ
first_word [] = []
first_word (b ∷ bs) = if b == 32 then [] else b ∷ first_word bs

abbrev behind_word : List ℕ → List ℕ
behind_word [] = []
behind_word (b ∷ bs) = if b == 32 then bs else behind_word bs

-- how many words stand before this one
abbrev pub place_in : List (List ℕ) → List ℕ → ℕ
place_in [] word = 0
place_in (w ∷ ws) word = if bytes_eq w word then 0 else suc (place_in ws word)

abbrev pub place_of : List ℕ → ℕ
place_of words = place_in all_words (first_word words)

-- words that begin with a verb tell its place and what stands behind it
record Told (v : Verb) (rest : List ℕ) : Type 0 where
  place_is : place_of (verb_word v ++ 32 ∷ rest) ≡ place v
  rest_is : behind_word (verb_word v ++ 32 ∷ rest) ≡ rest
  verb_is : get_or verbs (place v) verb.Load ≡ v
  low : nat_lt (place v) 19 ≡ true

told : (v : Verb) (rest : List ℕ) → Told v rest
told verb.Load rest = record { place_is = refl; rest_is = refl; verb_is = refl; low = refl }
told verb.LoadGrammar rest = record { place_is = refl; rest_is = refl; verb_is = refl; low = refl }
told verb.Save rest = record { place_is = refl; rest_is = refl; verb_is = refl; low = refl }
told verb.SaveGrammar rest = record { place_is = refl; rest_is = refl; verb_is = refl; low = refl }
told verb.Show rest = record { place_is = refl; rest_is = refl; verb_is = refl; low = refl }
told verb.Query rest = record { place_is = refl; rest_is = refl; verb_is = refl; low = refl }
told verb.Count rest = record { place_is = refl; rest_is = refl; verb_is = refl; low = refl }
told verb.Rename rest = record { place_is = refl; rest_is = refl; verb_is = refl; low = refl }
told verb.Insert rest = record { place_is = refl; rest_is = refl; verb_is = refl; low = refl }
told verb.Append rest = record { place_is = refl; rest_is = refl; verb_is = refl; low = refl }
told verb.Delete rest = record { place_is = refl; rest_is = refl; verb_is = refl; low = refl }
told verb.Value rest = record { place_is = refl; rest_is = refl; verb_is = refl; low = refl }
told verb.Attr rest = record { place_is = refl; rest_is = refl; verb_is = refl; low = refl }
told verb.Copy rest = record { place_is = refl; rest_is = refl; verb_is = refl; low = refl }
told verb.RenameAll rest = record { place_is = refl; rest_is = refl; verb_is = refl; low = refl }
told verb.DeleteAll rest = record { place_is = refl; rest_is = refl; verb_is = refl; low = refl }
told verb.Generate rest = record { place_is = refl; rest_is = refl; verb_is = refl; low = refl }
told verb.Check rest = record { place_is = refl; rest_is = refl; verb_is = refl; low = refl }
told verb.ShowAll rest = record { place_is = refl; rest_is = refl; verb_is = refl; low = refl }

pub place-told : (v : Verb) (words rest : List ℕ) → words ≡ verb_word v ++ 32 ∷ rest → place_of words ≡ place v
place-told v words rest e = ap place_of e ∙ (told v rest).place_is

pub place-low : (v : Verb) → nat_lt (place v) 19 ≡ true
place-low v = (told v []).low

-- words begin with one verb
pub verb-one : (v w : Verb) (words xs ys : List ℕ) → words ≡ verb_word v ++ 32 ∷ xs → words ≡ verb_word w ++ 32 ∷ ys → (v ≡ w) × (xs ≡ ys)
verb-one v w words xs ys e d =
    let places = sym (place-told v words xs e) ∙ place-told w words ys d in (
      sym (told v xs).verb_is ∙ (ap (λ p. get_or verbs p verb.Load) places ∙ (told w ys).verb_is),
      sym (told v xs).rest_is ∙ (ap behind_word (sym e ∙ d) ∙ (told w ys).rest_is),
    )
