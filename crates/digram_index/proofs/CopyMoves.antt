-- Nodes with a copy among them: where those that are not met stand once another copy over the same arguments stands there.
use Rattle.std.proofs.Common.{◌≡◌, ◌⊎◌, inl, inr, ℕ, ◌+◌, ◌<◌, List, [], ◌∷◌, ◌++◌, length, get_or, Option, None, slice_get, refl, sym, ap, ◌∙◌, subst, arith, length-append}
use Rattle.rule_arena.specs.Preorder.{AreTerms}
use Rattle.rule_arena.specs.Terms.{Node, kids_of, parent_in}
use Rattle.rule_arena.specs.declared.key.Key.{Key}
use Rattle.slt_grammar.specs.Copying.{copied, holes_in}
use Rattle.slt_grammar.proofs.Agreeing.{Agree}
use Rattle.digram_index.proofs.OpenPlaces.{Opens, ups, open_behind, behind-terms}
use Rattle.digram_index.proofs.Sides.{Side, first, second, side}
use Rattle.digram_index.specs.Copies.{AreEachTerms, Meets}
use Rattle.digram_index.proofs.CopyPlaces.{AreSplit, IsBelowRoot, copied-terms, meets-within, placed, split, told}

-- nodes with a copy among them
abbrev pub around : List Node → List Node → List (List Node) → List Key → List Node → List Node
around front ns given keys back = front ++ (copied ns given keys ++ back)

-- where a node that is not met stands once another copy over the same arguments stands there
pub record HasMoved (front ns : List Node) (given : List (List Node)) (keys : List Key) (back : List Node) (node : Option Node) (parent : Option (Key × ℕ)) : Type 0 where
  pub at : ℕ
  pub within : at < length (around front ns given keys back)
  pub is_node : slice_get (around front ns given keys back) at ≡ node
  pub is_parent : parent_in (around front ns given keys back) at ≡ parent
  pub unmet : (u : ℕ) → at ≡ length front + u → Meets ns given u → ⊥

module _ (ranks : List ℕ) (front : List Node) (given : List (List Node)) (back : List Node) (terms : AreEachTerms given) (ns ms : List Node) (keys others : List Key)
    (agree : Agree ranks ns) (agree' : Agree ranks ms) (one : AreTerms kids_of 1 ns) (one' : AreTerms kids_of 1 ms) (many : length given ≡ holes_in ns) (many' : length given ≡ holes_in ms) where
  abbrev os : Opens
  os = open_behind (None ∷ []) front

  -- the parts of such nodes
  parts : (xs : List Node) (ks : List Key) → AreSplit (None ∷ []) (around front xs given ks back) front (copied xs given ks ++ back)
  parts xs ks = split (None ∷ []) (around front xs given ks back) front (copied xs given ks ++ back) refl

  inner : (xs : List Node) (ks : List Key) → AreSplit (open_behind (None ∷ []) front) (copied xs given ks ++ back) (copied xs given ks) back
  inner xs ks = split (open_behind (None ∷ []) front) (copied xs given ks ++ back) (copied xs given ks) back refl

  abbrev A : List Node
  A = copied ns given keys

  abbrev B : List Node
  B = copied ms given others

  abbrev Moved : ℕ → Type 0
  Moved t = HasMoved front ms given others back (slice_get (around front ns given keys back) t) (parent_in (around front ns given keys back) t)

  pub moves : (t : ℕ) → t < length (around front ns given keys back)
      → ((u : ℕ) × ((t ≡ length front + u) × Meets ns given u)) ⊎ HasMoved front ms given others back (slice_get (around front ns given keys back) t) (parent_in (around front ns given keys back) t)
  moves t l = at (side (length front) t)
    where
      all : length (around front ns given keys back) ≡ length front + (length A + length back)
      all = omega (arith, length-append front (A ++ back), length-append A back)

      all' : length (around front ms given others back) ≡ length front + (length B + length back)
      all' = omega (arith, length-append front (B ++ back), length-append B back)

      in-copy : (u : ℕ) → t ≡ length front + u → u < length A → Meets ns given u ⊎ IsBelowRoot given (slice_get A u) (get_or (ups (open_behind (None ∷ []) front) A) u None) → ((u : ℕ) × ((t ≡ length front + u) × Meets ns given u)) ⊎ Moved t
      in-copy u z w (inl m) = inl (u, (z, m))
      in-copy u z w (inr R) =
          let P = placed ms given others (open_behind (None ∷ []) front) (slice_get A u) (get_or (ups (open_behind (None ∷ []) front) A) u None) terms many' R in
          let x = (parts ns keys).right t u z in
          let y = (inner ns keys).left u w in
          let x' = (parts ms others).right (length front + P.at) P.at refl in
          let y' = (inner ms others).left P.at P.within in
          inr (record {
            at = length front + P.at;
            within = let v = P.within in omega (arith, v, all');
            is_node = x'.0 ∙ y'.0 ∙ P.is_node ∙ sym y.0 ∙ sym x.0;
            is_parent = x'.1 ∙ y'.1 ∙ P.is_parent ∙ sym y.1 ∙ sym x.1;
            unmet = λ v e m. P.unmet (let q : v ≡ P.at = omega (arith, e) in subst (Meets ms given) q m);
          })

      -- behind a copy the same places are open
      open-same : open_behind (open_behind (None ∷ []) front) A ≡ open_behind (open_behind (None ∷ []) front) B
      open-same =
          behind-terms 1 (open_behind (None ∷ []) front) A (copied-terms ranks 1 ns given keys agree one terms many)
          ∙ sym (behind-terms 1 (open_behind (None ∷ []) front) B (copied-terms ranks 1 ms given others agree' one' terms many'))

      in-back : (u v : ℕ) → t ≡ length front + u → u ≡ length A + v → Moved t
      in-back u v z w =
          let x = (parts ns keys).right t u z in
          let y = (inner ns keys).right u v w in
          let x' = (parts ms others).right (length front + (length B + v)) (length B + v) refl in
          let y' = (inner ms others).right (length B + v) v refl in
          record {
            at = length front + (length B + v);
            within = omega (arith, l, all, all', z, w);
            is_node = x'.0 ∙ y'.0 ∙ sym y.0 ∙ sym x.0;
            is_parent = x'.1 ∙ y'.1 ∙ ap (λ (ps : Opens). get_or (ups ps back) v None) (sym open-same) ∙ sym y.1 ∙ sym x.1;
            unmet = λ j e m. let k = meets-within ms given others j terms many' m in omega (arith, k, e);
          }

      at : Side (length front) t → ((u : ℕ) × ((t ≡ length front + u) × Meets ns given u)) ⊎ Moved t
      at (first h) =
          let x = (parts ns keys).left t h in
          let x' = (parts ms others).left t h in
          inr (record {
            at = t;
            within = omega (arith, h, all');
            is_node = x'.0 ∙ sym x.0;
            is_parent = x'.1 ∙ sym x.1;
            unmet = λ u e m. omega (arith, e, h);
          })
      at (second u z) = by (side (length A) u)
        where
          by : Side (length A) u → ((u : ℕ) × ((t ≡ length front + u) × Meets ns given u)) ⊎ Moved t
          by (first w) = in-copy u z w (told ns given keys (open_behind (None ∷ []) front) u terms many w)
          by (second v w) = inr (in-back u v z w)
