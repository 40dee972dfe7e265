-- Nodes whose calls hold identities: what an insertion and a removal are with the places of the rules.
use Rattle.std.proofs.Common.{◌≡◌, ◌⊎◌, inl, inr, ℕ, zero, suc, ◌<◌, ◌≤◌, List, [], ◌∷◌, length, get_or, map, Bool, true, false, refl, sym, ap, ◌∙◌, arith, insert, remove}
use Rattle.std.specs.Prelude.{eqb, cond}
use Rattle.std.proofs.lemmas.Bool.{cases_eq, eq-eqb, ne_eqb}
use Rattle.rule_arena.specs.Terms.{Node}
use Rattle.rule_arena.specs.declared.label.Label.{Label}
use Rattle.rule_arena.specs.declared.label.Label.TheVariants.{Bottom, Symbol, Call, Param}
use Rattle.slt_grammar.specs.Editing.{shifted, shifted_label}
use Rattle.slt_grammar.specs.Holding.{seen, AllKnown}
use Rattle.slt_grammar.specs.Keyed.{nodes_at}
use Rattle.slt_grammar.specs.KeyedEdits.{unshifted_keyed}
use Rattle.slt_grammar.specs.Ordering.{IsThere, Fresh, place_of}
use Rattle.slt_grammar.specs.Placing.{placed, placed_label, IsKnown, AreKnown, shifted_node, unshifted, unshifted_label, unshifted_node, DoesNotCall, DoNotCall}
use Rattle.slt_grammar.proofs.Orders.{fresh-index}

-- a fresh identity moves the others as the rules move
place-inserted : (ids : List ℕ) (place fresh id : ℕ) → place ≤ length ids → (fresh ≡ id → ⊥) → place_of (insert ids place fresh) id ≡ shifted place (place_of ids id)
place-inserted ids zero fresh id h n = rw (ne_eqb fresh id n) refl
place-inserted [] (suc place) fresh id h n = absurd (omega arith)
place-inserted (x ∷ xs) (suc place) fresh id h n = at_head (eqb x id) (place-inserted xs place fresh id (omega arith) n)
  where
    at_head : (b : Bool) → place_of (insert xs place fresh) id ≡ shifted place (place_of xs id) → cond b 0 (suc (place_of (insert xs place fresh) id)) ≡ shifted (suc place) (cond b 0 (suc (place_of xs id)))
    at_head true ih = refl
    at_head false ih = ap suc ih

place-removed : (ids : List ℕ) (place id : ℕ) → (place_of ids id ≡ place → ⊥) → place_of (remove ids place) id ≡ unshifted place (place_of ids id)
place-removed [] zero id n = absurd (n refl)
place-removed [] (suc place) id n = refl
place-removed (x ∷ xs) zero id n = at_head (eqb x id) n
  where
    at_head : (b : Bool) → (cond b 0 (suc (place_of xs id)) ≡ 0 → ⊥) → place_of xs id ≡ unshifted 0 (cond b 0 (suc (place_of xs id)))
    at_head true n = absurd (n refl)
    at_head false n = omega arith
place-removed (x ∷ xs) (suc place) id n = at_head (eqb x id) n (place-removed xs place id)
  where
    at_head : (b : Bool) → (cond b 0 (suc (place_of xs id)) ≡ suc place → ⊥) → ((place_of xs id ≡ place → ⊥) → place_of (remove xs place) id ≡ unshifted place (place_of xs id)) → cond b 0 (suc (place_of (remove xs place) id)) ≡ unshifted (suc place) (cond b 0 (suc (place_of xs id)))
    at_head true n ih = refl
    at_head false n ih = ap suc (ih (λ e. n (ap suc e)))

label-inserted : (ids : List ℕ) (place fresh : ℕ) → place ≤ length ids → Fresh fresh ids → (l : Label) → IsKnown ids l → placed_label (insert ids place fresh) l ≡ shifted_label place (placed_label ids l)
label-inserted ids place fresh h f Bottom k = refl
label-inserted ids place fresh h f (Symbol s) k = refl
label-inserted ids place fresh h f (Call id) k = ap Call (place-inserted ids place fresh id h (λ e. fresh-index fresh ids k.0 f k.1.0 (k.1.1 ∙ sym e)))
label-inserted ids place fresh h f Param k = refl

-- an insertion of a rule changes the order of identities alone: no node is written, and all calls name the new places
pub placed-inserted : (ids : List ℕ) (place fresh : ℕ) → place ≤ length ids → Fresh fresh ids → (ns : List Node) → AreKnown ids ns → placed (insert ids place fresh) ns ≡ map (shifted_node place) (placed ids ns)
placed-inserted ids place fresh h f [] k = refl
placed-inserted ids place fresh h f (n ∷ ns) k = rw (label-inserted ids place fresh h f n.label k.0, placed-inserted ids place fresh h f ns k.1) refl

label-removed : (ids : List ℕ) (place : ℕ) (l : Label) → DoesNotCall place (placed_label ids l) → placed_label (remove ids place) l ≡ unshifted_label place (placed_label ids l)
label-removed ids place Bottom k = refl
label-removed ids place (Symbol s) k = refl
label-removed ids place (Call id) k = ap Call (place-removed ids place id k)
label-removed ids place Param k = refl

-- and so does the removal of a rule that is not called
pub placed-removed : (ids : List ℕ) (place : ℕ) (ns : List Node) → DoNotCall place (placed ids ns) → placed (remove ids place) ns ≡ map (unshifted_node place) (placed ids ns)
placed-removed ids place [] k = refl
placed-removed ids place (n ∷ ns) k = rw (label-removed ids place n.label k.0, placed-removed ids place ns k.1) refl

-- the rules that are left are seen as before, with calls of the places before
pub seen-left : (order ranks : List ℕ) (bodies : List (List Node)) (p : ℕ) → ((r : ℕ) → DoNotCall p (nodes_at (seen order ranks bodies) r)) → (at : ℕ)
    → seen (remove order p) (remove ranks at) (remove bodies at) ≡ map (unshifted_keyed p) (remove (seen order ranks bodies) at)
seen-left order [] bodies p d zero = refl
seen-left order [] bodies p d (suc at) = refl
seen-left order (r ∷ ranks) [] p d zero = none ranks
  where
    none : (rs : List ℕ) → seen (remove order p) rs [] ≡ []
    none [] = refl
    none (r ∷ rs) = refl
seen-left order (r ∷ ranks) [] p d (suc at) = refl
seen-left order (r ∷ ranks) (b ∷ bodies) p d zero = all ranks bodies (λ s. d (suc s))
  where
    all : (rs : List ℕ) (bs : List (List Node)) → ((s : ℕ) → DoNotCall p (nodes_at (seen order rs bs) s)) → seen (remove order p) rs bs ≡ map (unshifted_keyed p) (seen order rs bs)
    all [] bs d = refl
    all (r ∷ rs) [] d = refl
    all (r ∷ rs) (b ∷ bs) d = rw (placed-removed order p b (d 0), all rs bs (λ s. d (suc s))) refl
seen-left order (r ∷ ranks) (b ∷ bodies) p d (suc at) = rw (placed-removed order p b (d 0), seen-left order ranks bodies p (λ s. d (suc s)) at) refl

-- an identity that is there, and is not at the place, is there still
there-left : (xs : List ℕ) (p id : ℕ) → IsThere xs id → (place_of xs id ≡ p → ⊥) → IsThere (remove xs p) id
there-left xs p id h n = find xs p id h.0 h.1.0 h.1.1 n
  where
    find : (xs : List ℕ) (p id i : ℕ) → i < length xs → get_or xs i 0 ≡ id → (place_of xs id ≡ p → ⊥) → IsThere (remove xs p) id
    find [] p id i h e n = absurd (omega arith)
    find (x ∷ xs) zero id zero h e n = absurd (n (rw (eq-eqb x id e) refl))
    find (x ∷ xs) zero id (suc i) h e n = (i, (omega arith, e))
    find (x ∷ xs) (suc p) id zero h e n = (0, (omega arith, e))
    find (x ∷ xs) (suc p) id (suc i) h e n = by (cases_eq x id) (λ m. find xs p id i (omega arith) e m)
      where
        by : (x ≡ id) ⊎ (x ≡ id → ⊥) → ((place_of xs id ≡ p → ⊥) → IsThere (remove xs p) id) → IsThere (remove (x ∷ xs) (suc p)) id
        by (inl z) ih = (0, (omega arith, z))
        by (inr d) ih =
            let w = ih (λ z. n (rw (ne_eqb x id d) (ap suc z))) in
            let l = w.1.0 in
            (suc w.0, (omega arith, w.1.1))

label-left : (order : List ℕ) (p : ℕ) (l : Label) → IsKnown order l → DoesNotCall p (placed_label order l) → IsKnown (remove order p) l
label-left order p Bottom k d = tt
label-left order p (Symbol f) k d = tt
label-left order p (Call id) k d = there-left order p id k d
label-left order p Param k d = tt

known-left : (order : List ℕ) (p : ℕ) (ns : List Node) → AreKnown order ns → DoNotCall p (placed order ns) → AreKnown (remove order p) ns
known-left order p [] k d = tt
known-left order p (n ∷ ns) k d = (label-left order p n.label k.0 d.0, known-left order p ns k.1 d.1)

pub all-left : (order ranks : List ℕ) (bodies : List (List Node)) (p : ℕ) → length ranks ≡ length bodies → AllKnown order bodies → ((r : ℕ) → DoNotCall p (nodes_at (seen order ranks bodies) r)) → (at : ℕ) → AllKnown (remove order p) (remove bodies at)
all-left order [] [] p e k d zero = tt
all-left order [] [] p e k d (suc at) = tt
all-left order [] (b ∷ bodies) p e k d at = absurd (omega arith)
all-left order (r ∷ ranks) [] p e k d at = absurd (omega arith)
all-left order (r ∷ ranks) (b ∷ bodies) p e k d zero = all ranks bodies (omega arith) k.1 (λ s. d (suc s))
  where
    all : (rs : List ℕ) (bs : List (List Node)) → length rs ≡ length bs → AllKnown order bs → ((s : ℕ) → DoNotCall p (nodes_at (seen order rs bs) s)) → AllKnown (remove order p) bs
    all [] [] e k d = tt
    all [] (b ∷ bs) e k d = absurd (omega arith)
    all (r ∷ rs) [] e k d = absurd (omega arith)
    all (r ∷ rs) (b ∷ bs) e k d = (known-left order p b k.0 (d 0), all rs bs (omega arith) k.1 (λ s. d (suc s)))
all-left order (r ∷ ranks) (b ∷ bodies) p e k d (suc at) = (known-left order p b k.0 (d 0), all-left order ranks bodies p (omega arith) k.1 (λ s. d (suc s)) at)
