-- A dictionary that is read.
use Rattle.std.proofs.Common.{◌≡◌, ℕ, ◌<◌, List, ◌++◌, length, sym, ap, ◌∙◌, subst, append_assoc}
use Rattle.std.specs.List.{All}
use Rattle.text_list.specs.Dictionaries.{ListedTexts, dictionary_of, first_texts, places_among}
use Rattle.text_list.proofs.DictionaryLaws.{places_below}
use Rattle.grammar_file.specs.FileBytes.{list_bytes, text_bytes, dictionary_bytes}
use Rattle.grammar_file.specs.Numbers.{number_bytes}
use Rattle.grammar_file.specs.Reading.{BeginsNone}
use Rattle.grammar_file.proofs.Unique.{list-unique, text-unique, number-unique}

abbrev pub BeginsNoDictionary : List ℕ → Type 0
BeginsNoDictionary start = BeginsNone (λ (_ : List (List ℕ)). Unit {0}) (λ texts. dictionary_bytes (dictionary_of texts)) start

module _ (start mid : List ℕ) (ds : List (List ℕ)) (e : start ≡ list_bytes text_bytes ds ++ mid) where
  behind : (texts : List (List ℕ)) (more : List ℕ) → start ≡ dictionary_bytes (dictionary_of texts) ++ more → (ds ≡ first_texts texts) × (mid ≡ list_bytes number_bytes (places_among (first_texts texts) texts) ++ more)
  behind texts more is =
      let F = first_texts texts in
      let P = places_among F texts in
      list-unique text_bytes text-unique ds F mid (list_bytes number_bytes P ++ more) (sym e ∙ is ∙ append_assoc (list_bytes text_bytes F) (list_bytes number_bytes P) more)

  -- no places follow the texts
  pub no_places : BeginsNone (All (λ place. place < length ds)) (list_bytes number_bytes) mid → BeginsNoDictionary start
  no_places bad texts more _ is =
      let one = behind texts more is in
      let P = places_among (first_texts texts) texts in
      bad P more (subst (λ n. All (λ place. place < n) P) (ap length (sym one.0)) (places_below texts)) one.1

  -- texts and places that are the dictionary of no list
  pub no_list : (last : List ℕ) (d : ListedTexts) → d.different ≡ ds → mid ≡ list_bytes number_bytes d.places ++ last → ((texts : List (List ℕ)) → dictionary_of texts ≡ d → ⊥) → BeginsNoDictionary start
  no_list last d g f bad texts more _ is =
      let one = behind texts more is in
      let P = places_among (first_texts texts) texts in
      let two = list-unique number_bytes number-unique d.places P last more (sym f ∙ one.1) in
      bad texts (ap (λ ts. record { different = ts; places = P }) (sym (g ∙ one.0)) ∙ ap (λ ps. record { different = d.different; places = ps }) (sym two.0))
