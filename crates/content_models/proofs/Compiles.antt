-- A schema is compiled.
use Rattle.std.proofs.Common.{◌≡◌, ℕ, zero, suc, ◌+◌, ◌<◌, ◌≤◌, List, [], ◌∷◌, ◌++◌, Option, Some, None, slice_get, take, map, length, get_or, replicate, refl, ap, sym, subst, ◌∙◌, arith, append-nil}
use Rattle.std.specs.Prelude.{Bool, true, false, ◌||◌}
use Rattle.std.specs.List.{list_any}
use Rattle.std.proofs.lemmas.List.{map-append, take_more}
use Rattle.std.proofs.lemmas.Option.{slice_get_within}
use Rattle.plain_tree.specs.declared.kind.Kind.{Kind}
use Rattle.plain_tree.specs.Numbers.{nodes}
use Rattle.plain_tree.specs.Tree.{Tree, none, more}
use Rattle.slt_grammar.specs.Automata.{hits}
use Rattle.slt_grammar.specs.Coding.{Codes}
use Rattle.slt_grammar.specs.Terms.{Term}
use Rattle.content_models.specs.declared.schema.Declaration.{Declaration}
use Rattle.content_models.specs.declared.sorts.Sort.{Sort}
use Rattle.content_models.specs.declared.ways.Spot.{Spot}
use Rattle.content_models.specs.declared.ways.Way.{Way}
use Rattle.content_models.specs.Checking.{Checking, checking_algebra, checking_downward}
use Rattle.content_models.specs.Compiled.{AddsAll, IsCompiled, any_place, any_spot, sort_of}
use Rattle.content_models.specs.Compiling.{Adds}
use Rattle.content_models.specs.Models.{Model}
use Rattle.content_models.specs.Rules.{rule_of}
use Rattle.content_models.specs.Ways.{places_of, to_end, way_of}
use Rattle.content_models.specs.Wrong.{AreWrong}
use Rattle.content_models.proofs.Placing.{spots-more}
use Rattle.content_models.proofs.Trees.{hits-wrong}

abbrev Schema : Type 0
Schema = List (List ℕ × Model)

-- with the item at a place
take-next : {A : Type 0} (xs : List A) (i : ℕ) (x : A) → i < length xs → x ≡ get_or xs i x → take (i + 1) xs ≡ take i xs ++ x ∷ []
take-next xs i x l e = take_more xs i x l ∙ ap (λ z. take i xs ++ z ∷ []) (sym e)

some_same : (a b : Kind × List ℕ) → ◌≡◌ {A = Option (Kind × List ℕ)} (Some a) (Some b) → a ≡ b
some_same a b f = ap (λ (o : Option (Kind × List ℕ)). elim o [ Some p ↦ p | None ↦ b ]) f

item-at : (xs : List (Kind × List ℕ)) (i : ℕ) (x : Kind × List ℕ) → slice_get xs i ≡ Some x → x ≡ get_or xs i x
item-at [] i x e = refl
item-at (y ∷ xs) zero x e = sym (some_same y x e)
item-at (y ∷ xs) (suc i) x e = item-at xs i x e

pub sorts-next : (S : Schema) (names : List (Kind × List ℕ)) (i : ℕ) (kind : Kind) (name : List ℕ) (old new : List Sort) (s : Sort) → slice_get names i ≡ Some (kind, name)
    → old ≡ map (λ pair. sort_of S pair.0 pair.1) (take i names) → s ≡ sort_of S kind name → new ≡ old ++ s ∷ [] → new ≡ map (λ pair. sort_of S pair.0 pair.1) (take (i + 1) names)
sorts-next S names i kind name old new s e h k n =
    let f : Kind × List ℕ → Sort = λ pair. sort_of S pair.0 pair.1 in
    n ∙ ap (λ z. z ++ s ∷ []) h ∙ ap (λ z. map f (take i names) ++ z ∷ []) k ∙ sym (map-append f (take i names) ((kind, name) ∷ []))
    ∙ sym (ap (map f) (take-next names i (kind, name) (slice_get_within names i (kind, name) e) (item-at names i (kind, name) e)))

pub rules-next : (ds : List Declaration) (i : ℕ) (d : Declaration) → i < length ds → d ≡ get_or ds i d → map rule_of (take (i + 1) ds) ≡ map rule_of (take i ds) ++ rule_of d ∷ []
rules-next ds i d l e = ap (map rule_of) (take-next ds i d l e) ∙ map-append rule_of (take i ds) (d ∷ [])

pub fronts-next : (ds : List Declaration) (i : ℕ) (d : Declaration) (old new : List Way) (w : Way) → i < length ds → d ≡ get_or ds i d → w ≡ way_of 0 (rule_of d).1 to_end
    → old ≡ map (λ pair. way_of 0 pair.1 to_end) (map rule_of (take i ds)) → new ≡ old ++ w ∷ [] → new ≡ map (λ pair. way_of 0 pair.1 to_end) (map rule_of (take (i + 1) ds))
fronts-next ds i d old new w l e f h n =
    let g : List ℕ × Model → Way = λ pair. way_of 0 pair.1 to_end in
    n ∙ ap (λ z. z ++ w ∷ []) h ∙ ap (λ z. map g (map rule_of (take i ds)) ++ z ∷ []) f
    ∙ sym (ap (map g) (rules-next ds i d l e) ∙ map-append g (map rule_of (take i ds)) (rule_of d ∷ []))

or-assoc : (a b c : Bool) → ((a || b) || c) ≡ (a || (b || c))
or-assoc true b c = refl
or-assoc false b c = refl

pub adds-next : (names : List (Kind × List ℕ)) (ds : List Declaration) (i : ℕ) (d : Declaration) (old mid new : List (List Spot)) → i < length ds → d ≡ get_or ds i d
    → AddsAll names (map rule_of (take i ds)) old mid → Adds names i 0 (places_of 0 (rule_of d).1 to_end) mid new → AddsAll names (map rule_of (take (i + 1) ds)) old new
adds-next names ds i d old mid new l e a b = λ f name g test.
    let S = map rule_of (take i ds) in
    b f name g test ∙ ap (λ x. x || any_place name test i 0 (places_of 0 (rule_of d).1 to_end)) (a f name g test)
    ∙ or-assoc (list_any test (get_or old f [])) (any_spot name test 0 S) (any_place name test i 0 (places_of 0 (rule_of d).1 to_end))
    ∙ ap (λ x. list_any test (get_or old f []) || x)
    (sym (ap (any_spot name test 0) (rules-next ds i d l e) ∙ spots-more S (rule_of d) name test 0 i (let k = so_many i ds (omega arith) in omega (arith, k))))
  where
    so_many : (k : ℕ) (xs : List Declaration) → k ≤ length xs → length (map rule_of (take k xs)) ≡ k
    so_many zero xs h = refl
    so_many (suc k) [] h = absurd (omega arith)
    so_many (suc k) (x ∷ xs) h = ap suc (so_many k xs (omega arith))

none-row : (n f : ℕ) → ◌≡◌ {A = List Spot} (get_or (replicate n []) f []) []
none-row zero f = refl
none-row (suc n) zero = refl
none-row (suc n) (suc f) = none-row n f

-- what is compiled so checks documents
pub checks : (S : Schema) (names : List (Kind × List ℕ)) (c : Checking) (old : List (List Spot)) (n : ℕ) → length S ≤ 64 → c.sorts ≡ map (λ pair. sort_of S pair.0 pair.1) names
    → c.fronts ≡ map (λ pair. way_of 0 pair.1 to_end) S → old ≡ replicate n [] → AddsAll names S old c.rows
    → (t : Tree) (term : Term) → Codes names (more t none) term → AreWrong S 0 (nodes t) (hits (checking_algebra c) (checking_downward c) term)
checks S names c old n few s f e a t term codes =
    subst (λ ts. AreWrong S 0 ts (hits (checking_algebra c) (checking_downward c) term)) (append-nil (nodes t)) (hits-wrong S few names c compiled (more t none) term codes 0 (record {})) where
      compiled : IsCompiled S names c
      compiled = record {
        sorts = s;
        fronts = f;
        rows = λ g name h test. a g name h test ∙ ap (λ rows. list_any test (get_or rows g []) || any_spot name test 0 S) e ∙ ap (λ row. list_any test row || any_spot name test 0 S) (none-row n g);
      }
