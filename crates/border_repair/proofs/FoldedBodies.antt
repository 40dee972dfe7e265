-- Bodies that are folded from their ends, label by label.
use Rattle.std.proofs.Common.{◌≡◌, ℕ, ◌+◌, ◌≤◌, List, [], ◌∷◌, ◌++◌, length, get_or, drop, Option, Some, refl, ap, sym, subst, ◌∙◌, arith, append-nil}
use Rattle.rule_arena.specs.Preorder.{AreTerms}
use Rattle.rule_arena.specs.declared.label.Label.{Label}
use Rattle.slt_grammar.specs.Bodies.{arity, IsTerm}
use Rattle.slt_grammar.specs.declared.digram.Digram.{Digram}
use Rattle.border_repair.specs.Folding.{Folds, nothing, live, HoldsTerms, IsFolding, CanFold}
use Rattle.border_repair.specs.declared.folding.Root.{Root}
use Rattle.border_repair.proofs.Suffixes.{count-same, suffix, first-arity, drop-at}

-- what is folded of a body down to a place
pub record IsFoldedDown (ranks : List ℕ) (d : Digram) (body : List Label) (left : ℕ) (roots : List Root) (labels : List (Option Label)) : Type 0 where
  pub within : left ≤ length body
  pub folding : IsFolding ranks d roots labels (drop left body)

pub folded-start : (ranks : List ℕ) (d : Digram) (body : List Label) (roots : List Root) (labels : List (Option Label)) → roots ≡ [] → labels ≡ [] → IsFoldedDown ranks d body (length body) roots labels
folded-start ranks d body roots labels r l = record {
  within = omega arith;
  folding = subst (IsFolding ranks d roots labels) (sym (all_dropped body)) (record {
    terms = [];
    holds = subst (λ rs. HoldsTerms rs labels []) (sym r) l;
    folds = nothing;
    are = tt;
    counts = tt;
  });
}
  where
    all_dropped : (ls : List Label) → drop (length ls) ls ≡ []
    all_dropped [] = refl
    all_dropped (l ∷ ls) = all_dropped ls

module _ (ranks : List ℕ) (d : Digram) (body : List Label) (term : IsTerm ranks body) where
  module _ (left : ℕ) (roots : List Root) (labels : List (Option Label)) (f : IsFoldedDown ranks d body (left + 1) roots labels) (label : Label) (here : get_or body left label ≡ label) where
    next : drop left body ≡ label ∷ drop (left + 1) body
    next = drop-at body left label (omega (arith, f.within)) here

    pub fold-enough : arity ranks label ≤ length f.folding.terms
    fold-enough =
        let s = suffix (arity ranks) 1 left body term in
        first-arity (arity ranks) s.0 label (drop (left + 1) body) (length f.folding.terms) (subst (AreTerms (arity ranks) s.0) next s.1) f.folding.counts

    abbrev pub can-fold : CanFold ranks d roots labels label
    can-fold = record { labels_behind = drop (left + 1) body; folding = f.folding; enough = fold-enough }

    pub folded-next : (roots_now : List Root) (labels_now : List (Option Label)) → IsFolding ranks d roots_now labels_now (label ∷ drop (left + 1) body) → IsFoldedDown ranks d body left roots_now labels_now
    folded-next roots_now labels_now x = record { within = omega (arith, f.within); folding = subst (IsFolding ranks d roots_now labels_now) (sym next) x }

  -- the whole body is one term
  pub folded-whole : (roots : List Root) (labels : List (Option Label)) → IsFoldedDown ranks d body 0 roots labels → Folds ranks 0 d body (live labels ∷ [])
  folded-whole roots labels f = by_terms f.folding.terms (count-same (arity ranks) (length f.folding.terms) 1 body f.folding.counts term) roots f.folding.holds f.folding.folds where
    by_terms : (ts : List (List Label)) → length ts ≡ 1 → (rs : List Root) → HoldsTerms rs labels ts → Folds ranks 0 d body ts → Folds ranks 0 d body (live labels ∷ [])
    by_terms [] n rs h x = absurd (omega arith)
    by_terms (t ∷ []) n [] h x = absurd h
    by_terms (t ∷ []) n (r ∷ q ∷ rs) h x = absurd h.5
    by_terms (t ∷ []) n (r ∷ []) h x =
        let e : live labels ≡ t = ap live (h.2 ∙ ap (λ z. Some r.label ∷ (h.0 ++ z)) h.5 ∙ ap (λ z. Some r.label ∷ z) (append-nil h.0)) ∙ sym h.3 in
        subst (λ z. Folds ranks 0 d body (z ∷ [])) (sym e) x
    by_terms (t ∷ u ∷ ts) n rs h x = absurd (omega arith)
