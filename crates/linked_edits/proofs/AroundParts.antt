-- A term before which others were put: where the nodes stand, and what stands above them.
use Rattle.std.proofs.Common.{◌≡◌, ℕ, zero, suc, ◌+◌, ◌<◌, List, [], ◌∷◌, ◌++◌, length, get_or, drop, None, slice_get, refl, sym, ap, ◌∙◌, subst, arith, length-append}
use Rattle.std.proofs.lemmas.List.{append-nil}
use Rattle.rule_arena.specs.Preorder.{AreTerms}
use Rattle.rule_arena.specs.Terms.{Node, kids_of}
use Rattle.rule_arena.specs.declared.key.Key.{Key}
use Rattle.rule_arena.specs.declared.label.Label.{Label}
use Rattle.rule_arena.specs.declared.label.Label.TheVariants.{Bottom, Symbol, Call, Param}
use Rattle.slt_grammar.specs.Bodies.{arity, params}
use Rattle.slt_grammar.specs.Copying.{copied}
use Rattle.slt_grammar.specs.Wrapping.{nodes_of}
use Rattle.digram_index.specs.Digrams.{parent_node}
use Rattle.linked_edits.proofs.NodeUps.{Ups, above, behind, behind-terms, below-root, parts}

-- the first node of a term stands in the first open place
first-open : (os : Ups) (xs ys : List Node) → AreTerms kids_of 1 xs → get_or (above os (xs ++ ys)) 0 None ≡ get_or os 0 None
first-open os [] ys t = absurd t
first-open os (x ∷ xs) ys t = refl

module _ (front pre sub back : List Node) (one : AreTerms kids_of 1 sub) (all : AreTerms kids_of 1 (pre ++ sub)) where
  abbrev pub IsAlike : ℕ → ℕ → Type 0
  IsAlike t u = (slice_get (front ++ ((pre ++ sub) ++ back)) t ≡ slice_get (front ++ (sub ++ back)) u) × (parent_node (front ++ ((pre ++ sub) ++ back)) t ≡ parent_node (front ++ (sub ++ back)) u)

  pub alike-front : (t : ℕ) → t < length front → IsAlike t t
  alike-front t l =
      let x = (parts (None ∷ []) front ((pre ++ sub) ++ back)).left t l in
      let y = (parts (None ∷ []) front (sub ++ back)).left t l in
      (x.0 ∙ sym y.0, x.1 ∙ sym y.1)

  pub alike-back : (v : ℕ) → IsAlike (length front + (length (pre ++ sub) + v)) (length front + (length sub + v))
  alike-back v =
      let os : Ups = behind (None ∷ []) front in
      let mid : List Node = pre ++ sub in
      let x = (parts (None ∷ []) front (mid ++ back)).right (length front + (length mid + v)) (length mid + v) refl in
      let x' = (parts os mid back).right (length mid + v) v refl in
      let y = (parts (None ∷ []) front (sub ++ back)).right (length front + (length sub + v)) (length sub + v) refl in
      let y' = (parts os sub back).right (length sub + v) v refl in
      let b : get_or (above (behind os mid) back) v None ≡ get_or (above (behind os sub) back) v None = ap (λ (o : Ups). get_or (above o back) v None) (behind-terms 1 os mid all ∙ sym (behind-terms 1 os sub one)) in
      (x.0 ∙ x'.0 ∙ sym y'.0 ∙ sym y.0, x.1 ∙ x'.1 ∙ b ∙ sym y'.1 ∙ sym y.1)

  pub alike-sub : (u : ℕ) → suc u < length sub → IsAlike (length front + (length pre + suc u)) (length front + suc u)
  alike-sub u l =
      let os : Ups = behind (None ∷ []) front in
      let mid : List Node = pre ++ sub in
      let inside : length pre + suc u < length (pre ++ sub) = omega (arith, l, length-append pre sub) in
      let x = (parts (None ∷ []) front (mid ++ back)).right (length front + (length pre + suc u)) (length pre + suc u) refl in
      let x' = (parts os mid back).left (length pre + suc u) inside in
      let x'' = (parts os pre sub).right (length pre + suc u) (suc u) refl in
      let y = (parts (None ∷ []) front (sub ++ back)).right (length front + suc u) (suc u) refl in
      let y' = (parts os sub back).left (suc u) l in
      let b : get_or (above (behind os pre) sub) (suc u) None ≡ get_or (above os sub) (suc u) None = below-root (behind os pre) sub u one ∙ sym (below-root os sub u one) in
      (x.0 ∙ x'.0 ∙ x''.0 ∙ sym y'.0 ∙ sym y.0, x.1 ∙ x'.1 ∙ x''.1 ∙ b ∙ sym y'.1 ∙ sym y.1)

  -- what stands above the term is what stands above those before it now
  pub same-above-first : parent_node (front ++ ((pre ++ sub) ++ back)) (length front) ≡ parent_node (front ++ (sub ++ back)) (length front)
  same-above-first =
      let os : Ups = behind (None ∷ []) front in
      let z : length front ≡ length front + 0 = omega arith in
      ((parts (None ∷ []) front ((pre ++ sub) ++ back)).right (length front) 0 z).1 ∙ first-open os (pre ++ sub) back all
      ∙ sym (first-open os sub back one) ∙ sym (((parts (None ∷ []) front (sub ++ back)).right (length front) 0 z).1)

-- the nodes of a body that ends in its parameter, copied: those of its other labels, and then what takes the parameter's place
pub record EndsInCopies (ranks : List ℕ) (key : Key) (labels : List Label) (g : List Node) (keys : List Key) : Type 0 where
  pub pre : List Node
  pub whole : copied (nodes_of ranks key (labels ++ Param ∷ [])) (g ∷ []) keys ≡ pre ++ g
  pub many : length pre ≡ length labels
  pub terms : (n : ℕ) → AreTerms (arity ranks) n (labels ++ Param ∷ []) → AreTerms kids_of n (pre ++ g)

module _ (ranks : List ℕ) (key : Key) (g : List Node) (one : AreTerms kids_of 1 g) where
  alone : (n : ℕ) → AreTerms (arity ranks) n (Param ∷ []) → AreTerms kids_of n g
  alone zero t = absurd t
  alone (suc zero) t = one
  alone (suc (suc n)) t = absurd (let z : 0 + suc n ≡ suc n = omega arith in subst (λ (k : ℕ). AreTerms (arity ranks) k []) z t)

  pub ends-in-copies : (labels : List Label) (keys : List Key) → params labels ≡ 0 → EndsInCopies ranks key labels g keys
  ends-in-copies [] keys none = record { pre = []; whole = append-nil g; many = refl; terms = alone }
  ends-in-copies (l ∷ ls) keys none = at l none (λ n. ends-in-copies ls (drop 1 keys) n)
    where
      more : (l : Label) → (copied (nodes_of ranks key (l ∷ (ls ++ Param ∷ []))) (g ∷ []) keys ≡ record { key = get_or keys 0 key; label = l; kids = arity ranks l } ∷ copied (nodes_of ranks key (ls ++ Param ∷ [])) (g ∷ []) (drop 1 keys))
          → EndsInCopies ranks key ls g (drop 1 keys) → EndsInCopies ranks key (l ∷ ls) g keys
      more l e C = record {
        pre = record { key = get_or keys 0 key; label = l; kids = arity ranks l } ∷ C.pre;
        whole = e ∙ ap (λ (zs : List Node). record { key = get_or keys 0 key; label = l; kids = arity ranks l } ∷ zs) C.whole;
        many = ap suc C.many;
        terms = begins l C;
      }
        where
          begins : (l : Label) (C : EndsInCopies ranks key ls g (drop 1 keys)) (n : ℕ) → AreTerms (arity ranks) n (l ∷ (ls ++ Param ∷ [])) → AreTerms kids_of n (record { key = get_or keys 0 key; label = l; kids = arity ranks l } ∷ (C.pre ++ g))
          begins l C zero t = absurd t
          begins l C (suc n) t = C.terms (arity ranks l + n) t

      at : (l : Label) → params (l ∷ ls) ≡ 0 → (params ls ≡ 0 → EndsInCopies ranks key ls g (drop 1 keys)) → EndsInCopies ranks key (l ∷ ls) g keys
      at Bottom none ih = more Bottom refl (ih none)
      at (Symbol f) none ih = more (Symbol f) refl (ih none)
      at (Call q) none ih = more (Call q) refl (ih none)
      at Param none ih = absurd (omega (arith, none))
