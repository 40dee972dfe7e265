-- Bodies that are joined label by label, and rules of leaves that are added one by one.
use Rattle.std.proofs.Common.{◌≡◌, ℕ, zero, suc, ◌+◌, ◌<◌, ◌≤◌, List, [], ◌∷◌, ◌++◌, length, take, drop, get_or, map, slice_get, slice_set, Some, refl, ap, sym, ◌∙◌, subst, inl, inr, arith, append_assoc}
use Rattle.std.specs.Prelude.{Option, None}
use Rattle.std.proofs.lemmas.Bool.Decides.{eqb_tells}
use Rattle.std.proofs.lemmas.List.{get_or-set_same, get_or-set_other, length-map, map-append, take_more}
use Rattle.rule_arena.specs.declared.label.Label.{Label}
use Rattle.rule_arena.specs.declared.label.Label.TheVariants.{Bottom, Symbol, Call, Param}
use Rattle.slt_grammar.specs.Grammars.{no_rule}
use Rattle.slt_grammar.specs.declared.rules.Rule.{Rule}
use Rattle.fcns_encoding.specs.Leaves.{leaf_rule, leaf_before, symbol_before, joined, joined_rule, AreLeafRules}
use Rattle.fcns_encoding.proofs.CellLemmas.{end_get, front_get, get_is, got_within, last_get}

module _ (places : List (Option ℕ)) (leaves : ℕ) where
  -- a leaf is one label
  leaf-at : (f leaf at : ℕ) (ls : List Label) → slice_get ls at ≡ Some (Symbol f) → slice_get ls (suc at) ≡ Some Bottom → get_or places f None ≡ Some leaf
      → joined places leaves (drop at ls) ≡ Call leaf ∷ joined places leaves (drop (suc (suc at)) ls)
  leaf-at f leaf at [] e b p = cc
  leaf-at f leaf zero (l ∷ []) e b p = cc
  leaf-at f leaf zero (l ∷ m ∷ ls) e b p =
      let first : l ≡ Symbol f = cc in
      let second : m ≡ Bottom = cc in
      ap (λ x. joined places leaves (x ∷ m ∷ ls)) first ∙ ap (λ x. joined places leaves (Symbol f ∷ x ∷ ls)) second ∙ ap (λ o. leaf_before o f (joined places leaves ls)) p
  leaf-at f leaf (suc at) (l ∷ ls) e b p = leaf-at f leaf at ls e b p

  pub joined-leaf : (f leaf at : ℕ) (ls : List Label) → slice_get ls at ≡ Some (Symbol f) → slice_get ls (at + 1) ≡ Some Bottom → get_or places f None ≡ Some leaf
      → joined places leaves (drop at ls) ≡ Call leaf ∷ joined places leaves (drop (at + 2) ls)
  joined-leaf f leaf at ls e b p =
      let next : at + 1 ≡ suc at = omega arith in
      let behind : suc (suc at) ≡ at + 2 = omega arith in
      leaf-at f leaf at ls e (subst (λ k. slice_get ls k ≡ Some Bottom) next b) p ∙ ap (λ k. Call leaf ∷ joined places leaves (drop k ls)) behind

  -- a symbol that is no leaf stays
  symbol-stays : (f g : ℕ) (ls : List Label) → symbol_before places f (symbol_before places g ls) ≡ Symbol f ∷ symbol_before places g ls
  symbol-stays f g [] = refl
  symbol-stays f g (Bottom ∷ ls) = by_place (get_or places g None) where
    by_place : (o : Option ℕ) → symbol_before places f (leaf_before o g ls) ≡ Symbol f ∷ leaf_before o g ls
    by_place None = refl
    by_place (Some leaf) = refl
  symbol-stays f g (Symbol h ∷ ls) = refl
  symbol-stays f g (Call q ∷ ls) = refl
  symbol-stays f g (Param ∷ ls) = refl

  symbol-alone : (f : ℕ) (ls : List Label) → (slice_get ls 0 ≡ Some Bottom → get_or places f None ≡ None) → symbol_before places f (joined places leaves ls) ≡ Symbol f ∷ joined places leaves ls
  symbol-alone f [] none = refl
  symbol-alone f (Bottom ∷ ls) none = ap (λ o. leaf_before o f (joined places leaves ls)) (none refl)
  symbol-alone f (Symbol g ∷ ls) none = symbol-stays f g (joined places leaves ls)
  symbol-alone f (Call q ∷ ls) none = refl
  symbol-alone f (Param ∷ ls) none = refl

  symbol-at : (f at : ℕ) (ls : List Label) → slice_get ls at ≡ Some (Symbol f) → (slice_get ls (suc at) ≡ Some Bottom → get_or places f None ≡ None)
      → joined places leaves (drop at ls) ≡ Symbol f ∷ joined places leaves (drop (suc at) ls)
  symbol-at f at [] e none = cc
  symbol-at f zero (l ∷ ls) e none = let first : l ≡ Symbol f = cc in ap (λ x. joined places leaves (x ∷ ls)) first ∙ symbol-alone f ls none
  symbol-at f (suc at) (l ∷ ls) e none = symbol-at f at ls e none

  pub joined-symbol : (f at : ℕ) (ls : List Label) → slice_get ls at ≡ Some (Symbol f) → (slice_get ls (at + 1) ≡ Some Bottom → get_or places f None ≡ None)
      → joined places leaves (drop at ls) ≡ Symbol f ∷ joined places leaves (drop (at + 1) ls)
  joined-symbol f at ls e none =
      let next : suc at ≡ at + 1 = omega arith in
      symbol-at f at ls e (λ b. none (subst (λ k. slice_get ls k ≡ Some Bottom) next b)) ∙ ap (λ k. Symbol f ∷ joined places leaves (drop k ls)) next

  -- more of a body is written
  pub writes-more : (body new : List Label) (label : Label) (rest more all : List Label) → body ++ joined places leaves rest ≡ all → joined places leaves rest ≡ label ∷ joined places leaves more → new ≡ body ++ label ∷ []
      → new ++ joined places leaves more ≡ all
  writes-more body new label rest more all is step n =
      ap (λ ls. ls ++ joined places leaves more) n ∙ append_assoc body (label ∷ []) (joined places leaves more) ∙ ap (λ ls. body ++ ls) (sym step) ∙ is

-- one rule more is joined
pub joins-more : (places : List (Option ℕ)) (leaves : ℕ) (rules : List Rule) (i : ℕ) (R : Rule) (front shared new : List Rule) → slice_get rules i ≡ Some R → shared ≡ front ++ map (joined_rule places leaves) (take i rules) → new ≡ shared ++ joined_rule places leaves R ∷ []
    → new ≡ front ++ map (joined_rule places leaves) (take (i + 1) rules)
joins-more places leaves rules i R front shared new e is n =
    let here : get_or rules i no_rule ≡ R = get_is rules i R no_rule e in
    let more : take (i + 1) rules ≡ take i rules ++ R ∷ [] = take_more rules i no_rule (got_within rules i R e) ∙ ap (λ Q. take i rules ++ Q ∷ []) here in
    n ∙ ap (λ G. G ++ joined_rule places leaves R ∷ []) is ∙ append_assoc front (map (joined_rule places leaves) (take i rules)) (joined_rule places leaves R ∷ [])
    ∙ ap (λ G. front ++ G) (sym (map-append (joined_rule places leaves) (take i rules) (R ∷ []))) ∙ ap (λ G. front ++ map (joined_rule places leaves) G) (sym more)

-- One symbol more has a rule.
pub record LeafAdded (counts : List ℕ) (places : List (Option ℕ)) (symbol : ℕ) (G : List Rule) : Type 0 where
  pub rules : AreLeafRules counts places G
  pub later : (f : ℕ) → symbol + 1 ≤ f → get_or places f None ≡ None

pub leaf-added : (counts : List ℕ) (places places' : List (Option ℕ)) (symbol place : ℕ) (G G' : List Rule) (R : Rule) → AreLeafRules counts places G → ((f : ℕ) → symbol ≤ f → get_or places f None ≡ None) → symbol < length places
    → 0 < get_or counts symbol 0 → places' ≡ slice_set places symbol (Some place) → place ≡ length G → R ≡ leaf_rule symbol → G' ≡ G ++ R ∷ [] → LeafAdded counts places' symbol G'
leaf-added counts places places' symbol place G G' R are later there many e p is more =
    record {
      rules = record {
        symbols = are.symbols ++ symbol ∷ [];
        are = more ∙ ap (λ H. H ++ R ∷ []) are.are ∙ ap (λ Q. map leaf_rule are.symbols ++ Q ∷ []) is ∙ sym (map-append leaf_rule are.symbols (symbol ∷ []));
        leaves = record {
          told = λ f i h. elim (eqb_tells symbol f) [
            | inl w ↦ last_get are.symbols symbol i (here f i w.1 h) ∙ ap Some w.1
            | inr w ↦ front_get are.symbols (symbol ∷ []) i f (are.leaves.told f i (sym (other f w.1) ∙ h))
          ];
          back = λ i f h. elim (end_get are.symbols symbol i f h) [
            | inl s ↦ let p' = are.leaves.back i f s in other f (λ q. let none = later f (omega (arith, q)) in cc) ∙ p'
            | inr s ↦ ap (λ ps. get_or ps f None) e ∙ ap (λ k. get_or (slice_set places symbol (Some place)) k None) (sym s.1) ∙ same ∙ ap Some (p ∙ count ∙ sym s.0)
          ];
        };
        counted = λ i f h. elim (end_get are.symbols symbol i f h) [
          | inl s ↦ are.counted i f s
          | inr s ↦ subst (λ k. 0 < get_or counts k 0) s.1 many
        ];
      };
      later = λ f h. other f (λ q. omega (arith, q, h)) ∙ later f (omega (arith, h));
    }
  where
    count : length G ≡ length are.symbols
    count = ap length are.are ∙ length-map are.symbols leaf_rule

    same : get_or (slice_set places symbol (Some place)) symbol None ≡ Some place
    same = get_or-set_same places symbol (Some place) None there

    other : (f : ℕ) → (symbol ≡ f → ⊥) → get_or places' f None ≡ get_or places f None
    other f n = ap (λ ps. get_or ps f None) e ∙ get_or-set_other places symbol f (Some place) None (λ q. n (sym q))

    here : (f i : ℕ) → symbol ≡ f → get_or places' f None ≡ Some i → i ≡ length are.symbols
    here f i q h =
        let s : Some place ≡ Some i = sym same ∙ ap (λ k. get_or (slice_set places symbol (Some place)) k None) q ∙ ap (λ ps. get_or ps f None) (sym e) ∙ h in
        let n : place ≡ i = cc in sym n ∙ p ∙ count
