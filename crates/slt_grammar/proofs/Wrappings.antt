-- A term that was put around a node.
use Rattle.std.proofs.Common.{◌≡◌, ◌≢◌, inl, inr, ℕ, zero, suc, ◌+◌, ◌<◌, List, [], ◌∷◌, length, get_or, set, take, drop, Option, Some, None, IsSome, slice_get, refl, sym, ap, ◌∙◌, subst, arith}
use Rattle.std.proofs.lemmas.List.{length-map, length-set, length-take-le}
use Rattle.std.proofs.lemmas.Option.{slice_get_within}
use Rattle.rule_arena.specs.Preorder.{span, with_subterm}
use Rattle.rule_arena.specs.Terms.{Node, Terms, At, Apart, term_at, key_in, or_nothing, kids_of}
use Rattle.rule_arena.specs.declared.key.Key.{Key}
use Rattle.rule_arena.specs.declared.label.Label.TheVariants.{Bottom}
use Rattle.rule_arena.proofs.PathLemmas.{key_in-right}
use Rattle.rule_arena.proofs.PreorderLemmas.{with_subterm-twice}
use Rattle.slt_grammar.specs.Copying.{Made}
use Rattle.slt_grammar.specs.Holding.{AreHeld, Changed, terms_of}
use Rattle.slt_grammar.proofs.Changes.{set-set}
use Rattle.slt_grammar.proofs.Growing.{some_none}
use Rattle.slt_grammar.proofs.Inlinings.{inside}

same-terms : (a b : Terms) (ks : List Key) → ((i : ℕ) (k : Key) → slice_get ks i ≡ Some k → term_at b k.number ≡ term_at a k.number) → terms_of b ks ≡ terms_of a ks
same-terms a b [] h = refl
same-terms a b (k ∷ ks) h = rw (h 0 k refl, same-terms a b ks (λ i m e. h (suc i) m e)) refl

same-held : (a b : Terms) (ks : List Key) → AreHeld a ks → ((i : ℕ) (k : Key) → slice_get ks i ≡ Some k → term_at b k.number ≡ term_at a k.number) → AreHeld b ks
same-held a b ks H h = record { stands = λ i k e. subst (λ (t : Option (List Node)). IsSome t) (sym (h i k e)) (H.stands i k e); distinct = H.distinct }

-- the root of a body that is known
root-of : (b : Terms) (ks : List Key) (i : ℕ) (ns : List Node) (bs : List (List Node)) → i < length ks → AreHeld b ks → i < length bs → terms_of b ks ≡ set bs i ns
    → (k : Key) × (slice_get ks i ≡ Some k) × (term_at b k.number ≡ Some ns)
root-of b ks i ns bs h H w e =
    let f = found ks i h in
    (f.0, f.1, whole (term_at b f.0.number) (H.stands i f.0 f.1) (sym (get ks i f.0 f.1) ∙ ap (λ (xs : List (List Node)). get_or xs i []) e ∙ at bs i w))
  where
    found : (ks : List Key) (i : ℕ) → i < length ks → (k : Key) × (slice_get ks i ≡ Some k)
    found [] i h = absurd (omega arith)
    found (k ∷ ks) zero h = (k, refl)
    found (k ∷ ks) (suc i) h = found ks i (omega arith)

    get : (ks : List Key) (i : ℕ) (k : Key) → slice_get ks i ≡ Some k → get_or (terms_of b ks) i [] ≡ or_nothing (term_at b k.number)
    get [] i k e = absurd (let z : slice_get [] i ≡ Some k = e in cc)
    get (m ∷ ks) zero k e = let z : m ≡ k = cc in ap (λ (q : Key). or_nothing (term_at b q.number)) z
    get (m ∷ ks) (suc i) k e = get ks i k e

    at : (bs : List (List Node)) (i : ℕ) → i < length bs → get_or (set bs i ns) i [] ≡ ns
    at [] i h = absurd (omega arith)
    at (x ∷ bs) zero h = refl
    at (x ∷ bs) (suc i) h = at bs i (omega arith)

    whole : (t : Option (List Node)) → IsSome t → or_nothing t ≡ ns → t ≡ Some ns
    whole None s e = absurd (some_none None s refl)
    whole (Some ms) s e = ap (λ (xs : List Node). Some xs) e

-- a leaf that is to hold the place of a node
abbrev pub leaf-node : Key → Node
leaf-node leaf = record { key = leaf; label = Bottom; kids = 0 }

module _ (a b : Terms) (roots : List Key) (at leaf : Key) (H : AreHeld a roots) (vacant : term_at a leaf.number ≡ None)
    (others : (r : ℕ) → r ≢ leaf.number → Apart [] r → term_at b r ≡ term_at a r) where
  pub not-leaf : (r : ℕ) → IsSome (term_at a r) → r ≢ leaf.number
  not-leaf r s e = some_none (term_at a r) s (ap (λ (q : ℕ). term_at a q) e ∙ vacant)

  pub stays : (r : ℕ) → IsSome (term_at a r) → term_at b r ≡ term_at a r
  stays r s = others r (not-leaf r s) (λ i k e. absurd (let z : slice_get [] i ≡ Some k = e in cc))

  pub leaf-held : AreHeld b roots
  leaf-held = same-held a b roots H (λ i k e. stays k.number (H.stands i k e))

  pub leaf-terms : terms_of b roots ≡ terms_of a roots
  leaf-terms = same-terms a b roots (λ i k e. stays k.number (H.stands i k e))

  pub leaf-apart : Apart roots leaf.number
  leaf-apart i k e = not-leaf k.number (H.stands i k e)

  abbrev pub still-at : At a at → At b at
  still-at x = record { root = x.root; nodes = x.nodes; place = x.place; stands = stays x.root (subst (λ (t : Option (List Node)). IsSome t) (sym x.stands) refl) ∙ x.stands; there = x.there }

-- then the leaf stands in the node's place, and a term was made over the node
module _ (b c d : Terms) (roots mids : List Key) (at leaf new : Key) (H : AreHeld b roots) (i : ℕ) (k : Key) (x : At b at) (there : slice_get roots i ≡ Some k)
    (C : Changed b c roots mids i (with_subterm kids_of x.nodes x.place (leaf-node leaf ∷ []))) (apart : Apart mids at.number) (ms : List Node) (M : Made c d (at ∷ []) new ms) where
  abbrev pub leafy : List Node
  leafy = with_subterm kids_of x.nodes x.place (leaf-node leaf ∷ [])

  within : i < length roots
  within = slice_get_within roots i k there

  many : length (terms_of b roots) ≡ length roots
  many = length-map roots (λ (q : Key). or_nothing (term_at b q.number))

  many-mids : length mids ≡ length roots
  many-mids = sym (length-map mids (λ (q : Key). or_nothing (term_at c q.number))) ∙ ap length C.bodies ∙ length-set (terms_of b roots) i leafy ∙ many

  pub mid-root : (m : Key) × (slice_get mids i ≡ Some m) × (term_at c m.number ≡ Some leafy)
  mid-root = root-of c mids i leafy (terms_of b roots) (omega (arith, within, many-mids)) C.held (omega (arith, within, many)) C.bodies

  pub kept : (j : ℕ) (m : Key) → slice_get mids j ≡ Some m → term_at d m.number ≡ term_at c m.number
  kept j m e = M.others m.number (C.held.stands j m e) (λ q n f h. one q n f (λ z. apart j m e (sym (ap (λ (u : Key). u.number) z ∙ h))))
    where
      one : (q : ℕ) (n : Key) → slice_get (at ∷ []) q ≡ Some n → (at ≡ n → ⊥) → ⊥
      one zero n f z = z (cc)
      one (suc q) n f z = absurd (let w : slice_get [] q ≡ Some n = f in cc)

  pub mid-held : AreHeld d mids
  mid-held = same-held c d mids C.held kept

  pub leaf-there : key_in leafy x.place ≡ Some leaf
  leaf-there =
      let l : length (take x.place x.nodes) ≡ x.place = length-take-le x.place x.nodes (let w = inside x.nodes x.place at x.there in omega arith) in
      let z : length (take x.place x.nodes) + 0 ≡ x.place = omega (arith, l) in
      ap (λ (q : ℕ). key_in leafy q) (sym z) ∙ key_in-right (take x.place x.nodes) (leaf-node leaf ∷ drop (span kids_of 1 (drop x.place x.nodes)) (drop x.place x.nodes)) 0 leaf refl

  abbrev pub leaf-at : At d leaf
  leaf-at = record { root = mid-root.0.number; nodes = leafy; place = x.place; stands = kept i mid-root.0 mid-root.1 ∙ mid-root.2; there = leaf-there }

  pub made-stands : IsSome (term_at d new.number)
  made-stands = subst (λ (t : Option (List Node)). IsSome t) (sym M.term) refl

  pub made-apart : Apart mids new.number
  made-apart j m e h = elim M.origin [
    | inl z ↦ some_none (term_at c m.number) (C.held.stands j m e) (ap (λ (q : ℕ). term_at c q) h ∙ z)
    | inr z ↦ one z.0 z.1 (λ w. apart j m e (h ∙ ap (λ (u : Key). u.number) (sym w)))
  ]
    where
      one : (q : ℕ) → slice_get (at ∷ []) q ≡ Some new → (at ≡ new → ⊥) → ⊥
      one zero f z = z (cc)
      one (suc q) f z = absurd (let w : slice_get [] q ≡ Some new = f in cc)

  pub put-around : (a e : Terms) (news : List Key) → terms_of b roots ≡ terms_of a roots → Changed d e mids news i (with_subterm kids_of leafy x.place ms) → Changed a e roots news i (with_subterm kids_of x.nodes x.place ms)
  put-around a e news same D = record {
    held = D.held;
    bodies = D.bodies ∙ ap (λ (bs : List (List Node)). set bs i (with_subterm kids_of leafy x.place ms)) (same-terms c d mids kept ∙ C.bodies)
        ∙ set-set (terms_of b roots) i leafy (with_subterm kids_of leafy x.place ms)
        ∙ ap (λ (bs : List (List Node)). set bs i (with_subterm kids_of leafy x.place ms)) same
        ∙ ap (λ (ns : List Node). set (terms_of a roots) i ns) (with_subterm-twice kids_of x.nodes x.place (leaf-node leaf ∷ []) ms (let w = inside x.nodes x.place at x.there in omega arith) tt);
  }
