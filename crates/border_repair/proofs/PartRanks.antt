-- Why the rules of parts have no more parameters than the rule that is cut.
use Rattle.std.proofs.Common.{◌≡◌, ◌≢◌, ◌⊎◌, inl, inr, ℕ, zero, suc, ◌+◌, ◌<◌, ◌≤◌, max, List, [], ◌∷◌, ◌++◌, length, map, take, drop, reverse, refl, ap, sym, subst, ◌∙◌, eqb, eqb-true, true, arith}
use Rattle.std.specs.Prelude.{Bool}
use Rattle.std.proofs.lemmas.List.{reverse-append, take-append-drop}
use Rattle.rule_arena.specs.declared.label.Label.{Label}
use Rattle.rule_arena.specs.declared.label.Label.TheVariants.{Bottom, Symbol, Call, Param}
use Rattle.slt_grammar.specs.Algebras.{ranks_of}
use Rattle.slt_grammar.specs.Bodies.{arity, params, IsTerm}
use Rattle.slt_grammar.specs.Grammars.{rank_at}
use Rattle.slt_grammar.specs.Ranks.{greatest_rank}
use Rattle.slt_grammar.specs.declared.digram.Digram.{Digram}
use Rattle.slt_grammar.specs.declared.rules.Rule.{Rule}
use Rattle.slt_grammar.proofs.Meanings.{params-append}
use Rattle.border_repair.specs.Cutting.{front, Holds, CanCloseKids, HasParameterAt}
use Rattle.border_repair.specs.Digrams.{IsSymbol, rank_of}
use Rattle.border_repair.specs.PartRanks.{IsTopBare}
use Rattle.border_repair.specs.Splitting.{Piece, ArePieces}
use Rattle.border_repair.specs.declared.cutting.Mark.{Mark}
use Rattle.border_repair.proofs.CutSteps.{parts_of, parts-append}

pub params-reverse : (xs : List Label) → params (reverse xs) ≡ params xs
params-reverse [] = refl
params-reverse (x ∷ xs) = omega (arith, ap params (reverse-append (x ∷ []) xs), params-append (reverse xs) (x ∷ []), params-reverse xs, params-append (x ∷ []) xs)

pub params-take : (n : ℕ) (xs : List Label) → params (take n xs) ≤ params xs
params-take n xs = omega (arith, params-append (take n xs) (drop n xs), ap params (take-append-drop n xs))

pub params-drop : (n : ℕ) (xs : List Label) → params (drop n xs) ≤ params xs
params-drop n xs = omega (arith, params-append (take n xs) (drop n xs), ap params (take-append-drop n xs))

-- one more rule
pub ranks-push : (G : List Rule) (R : Rule) → greatest_rank (G ++ R ∷ []) ≡ max R.rank (greatest_rank G)
ranks-push [] R = refl
ranks-push (S ∷ G) R = omega (arith, ranks-push G R)

-- no rank is greater than the greatest
pub rank-within : (G : List Rule) (r : ℕ) → rank_at G r ≤ greatest_rank G
rank-within [] r = omega arith
rank-within (R ∷ G) zero = omega arith
rank-within (R ∷ G) (suc r) = omega (arith, rank-within G r)

-- the rule of a digram whose upper label is a symbol has a parameter
pub rank-some : (d : Digram) → IsSymbol d.upper → 1 ≤ rank_of d
rank-some d (f, u) = omega (arith, ap (arity []) u)

-- the parts that are held are those of the pieces
held-parts : (marks : List Mark) (parts args : List Label) (pieces : List Piece) → Holds marks parts args pieces → parts ≡ parts_of pieces
held-parts [] parts args [] h = h.0
held-parts (m ∷ ms) parts args [] h = absurd h
held-parts [] parts args (p ∷ ps) h = absurd h
held-parts (m ∷ ms) parts args (p ∷ ps) h = h.2.parts_split ∙ ap (λ z. p.part ++ z) (held-parts ms h.0 h.1 ps h.3)

-- where the one piece is a term alone, the part is a parameter
pub bare-one : (marks : List Mark) (parts args : List Label) (p : Piece) → Holds marks parts args (p ∷ []) → IsTopBare marks → params parts ≡ 1
bare-one [] parts args p h b = absurd b
bare-one (m ∷ ms) parts args p h b = let t = h.2.alone b in ap params (held-parts (m ∷ ms) parts args (p ∷ []) h ∙ ap (λ (z : Piece). z.part ++ []) t.1)

-- a part with a parameter at its front
front-free : (ranks : List ℕ) (part args : List Label) → IsTerm ranks part → front part args ≡ Param → 1 ≤ params part
front-free ranks [] args t e = absurd t
front-free ranks (Bottom ∷ ls) args t e = absurd cc
front-free ranks (Symbol f ∷ ls) args t e = absurd cc
front-free ranks (Call q ∷ ls) args t e = absurd cc
front-free ranks (Param ∷ ls) args t e = omega arith

-- where a child is a parameter, so is its part
kid-free : (ranks : List ℕ) (marks : List Mark) (parts args : List Label) (kids pieces : List Piece) (before behind : List Mark) (k : Mark) → Holds marks parts args (kids ++ pieces) → ArePieces ranks kids
    → marks ≡ before ++ k ∷ behind → length before < length kids → k.top ≡ Param → 1 ≤ params (parts_of kids)
kid-free ranks marks parts args [] pieces before behind k h a s l t = absurd (omega (arith, l))
kid-free ranks [] parts args (p ∷ kids) pieces before behind k h a s l t = absurd h
kid-free ranks (m ∷ ms) parts args (p ∷ kids) pieces [] behind k h a s l t =
    let same : m ≡ k = cc in
    let f = h.2 in
    omega (arith, params-append p.part (parts_of kids), front-free ranks p.part _ a.0.term (sym f.top ∙ ap (λ (z : Mark). z.top) same ∙ t))
kid-free ranks (m ∷ ms) parts args (p ∷ kids) pieces (b ∷ before) behind k h a s l t =
    let rest : ms ≡ before ++ k ∷ behind = cc in
    omega (arith, params-append p.part (parts_of kids), kid-free ranks ms h.0 h.1 kids pieces before behind k h.3 a.1 rest (omega (arith, l)) t)

-- a node outside takes the place of a parameter among the parts
pub outer-free : (ranks : List ℕ) (marks : List Mark) (parts args : List Label) (kids pieces : List Piece) (place : ℕ) (marks_mid : List Mark) (parts_mid args_mid : List Label) → Holds marks parts args (kids ++ pieces) → ArePieces ranks kids
    → HasParameterAt marks place → place ≤ length kids → Holds marks_mid parts_mid args_mid pieces → suc (params parts_mid) ≤ params parts
outer-free ranks marks parts args kids pieces place marks_mid parts_mid args_mid h a x l mid =
    omega (
      arith,
      kid-free ranks marks parts args kids pieces x.before x.behind x.mark h a x.split (omega (arith, l, x.here)) x.parameter,
      ap params (held-parts marks parts args (kids ++ pieces) h ∙ parts-append kids pieces),
      params-append (parts_of kids) (parts_of pieces),
      ap params (held-parts marks_mid parts_mid args_mid pieces mid),
    )

-- before the root is read the parts have no more parameters than the labels
pub held-before : (left : ℕ) (marks : List Mark) (parts labels : ℕ) → 0 < left → (parts ≤ labels) ⊎ ((left ≡ 0) × IsTopBare marks) → parts ≤ labels
held-before left marks parts labels l (inl few) = few
held-before left marks parts labels l (inr (z, b)) = absurd (omega (arith, l, z))

-- and so after one label more
pub held-more : (left : ℕ) (marks : List Mark) (before one parts labels : ℕ) → before + one ≤ labels → (parts ≤ before + one) ⊎ ((eqb left 0 ≡ true) × IsTopBare marks) → (parts ≤ labels) ⊎ ((left ≡ 0) × IsTopBare marks)
held-more left marks before one parts labels l (inl few) = inl (omega (arith, l, few))
held-more left marks before one parts labels l (inr (z, b)) = inr (eqb-true left 0 z, b)

-- where all is read, the one part has no more than these, or one
pub held-last : (left : ℕ) (marks : List Mark) (parts args : List Label) (p : Piece) (few labels : ℕ) → params parts ≡ few → Holds marks parts args (p ∷ []) → (few ≤ labels) ⊎ ((left ≡ 0) × IsTopBare marks) → few ≤ max 1 labels
held-last left marks parts args p few labels e h (inl l) = omega (arith, l)
held-last left marks parts args p few labels e h (inr (z, b)) = omega (arith, e, bare-one marks parts args p h b)

-- what is left of the parameters once a node is outside
pub outer-ranked : (rules : List Rule) (marks : List Mark) (parts args : List Label) (many : ℕ) (w : CanCloseKids rules marks parts args many) (marks_mid : List Mark) (parts_mid args_mid : List Label) → Holds marks_mid parts_mid args_mid w.held.pieces
    → (d : Digram) (label : Label) (root : Bool) → d.place ≤ arity [] d.upper → ((label ≡ d.upper) × HasParameterAt marks d.place) ⊎ ((root ≡ true) × (label ≡ d.lower)) → many ≡ arity [] label
    → (m : Mark) (marks_now : List Mark) → marks_now ≡ m ∷ marks_mid → m.bare ≡ true → (before mid now : ℕ) → params parts ≡ before → params parts_mid ≡ mid → now ≤ mid + 1
    → (now ≤ before + params (label ∷ [])) ⊎ ((root ≡ true) × IsTopBare marks_now)
outer-ranked rules marks parts args many w marks_mid parts_mid args_mid h d label root place (inr (r, l)) n m marks_now e b before mid now p q f = inr (r, subst IsTopBare (sym e) b)
outer-ranked rules marks parts args many w marks_mid parts_mid args_mid h d label root place (inl (u, x)) n m marks_now e b before mid now p q f =
    let l : d.place ≤ length w.held.kids = omega (arith, place, w.held.are_many, n, ap (arity []) u) in
    let free = outer-free (ranks_of (rules ++ [])) marks parts args w.held.kids w.held.pieces d.place marks_mid parts_mid args_mid w.held.holds (w.are []) x l h in
    inl (omega (arith, free, p, q, f))
