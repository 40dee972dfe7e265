-- The value of a grammar is what the start's body around a subterm makes of that subterm.
use Rattle.std.proofs.Common.{◌≡◌, ℕ, ◌-◌, ◌<◌, List, [], ◌∷◌, ◌++◌, length, get_or, map, ap, sym, ◌∙◌, arith}
use Rattle.rule_arena.specs.declared.label.Label.{Label}
use Rattle.rule_arena.specs.declared.label.Label.TheVariants.{Param}
use Rattle.slt_grammar.specs.Bodies.{params, IsTerm}
use Rattle.slt_grammar.specs.Algebras.{meanings, meaning, ranks_of, all_meanings}
use Rattle.slt_grammar.specs.Terms.{Term, Leaf, substitute, term_algebra, up, holes}
use Rattle.slt_grammar.specs.Grammars.{IsGrammar, body_at, rank_at, value}
use Rattle.slt_grammar.specs.declared.rules.Rule.{Rule}
use Rattle.slt_grammar.proofs.Meanings.{meanings-carried, get_or-carried, params-append, meanings-whole, only}
use Rattle.slt_grammar.proofs.Substitutions.{substitute-up, meanings-cut}
use Rattle.slt_grammar.proofs.RuleMeanings.{memo-at}
use Rattle.slt_grammar.proofs.Carrying.{up-carries, up-holes}

-- the term that a body is over arguments is the term that it is over holes, with the arguments in them
pub meaning-substitute : (G : List Rule) (body : List Label) (args : List Term)
    → meaning term_algebra (ranks_of G) (all_meanings term_algebra G) body args ≡ substitute (meaning term_algebra (ranks_of G) (all_meanings term_algebra G) body (holes 0 (length args))) args
meaning-substitute G body args =
    let ranks : List ℕ = ranks_of G in
    let fs : List (List Term → Term) = all_meanings term_algebra G in
    let hs : List Term = holes 0 (length args) in
    let c = up-carries term_algebra G args in
    let e : up term_algebra (meaning term_algebra ranks fs body hs) args ≡ meaning term_algebra ranks fs body (map (λ t. up term_algebra t args) hs) =
    get_or-carried (λ t. up term_algebra t args) term_algebra term_algebra fs fs c (meanings term_algebra ranks fs hs body []) 0
    ∙ ap (λ ms. get_or ms 0 Leaf) (meanings-carried (λ t. up term_algebra t args) term_algebra term_algebra fs fs c ranks hs body []) in
    sym (substitute-up (meaning term_algebra ranks fs body hs) args ∙ e ∙ ap (meaning term_algebra ranks fs body) (up-holes term_algebra [] args))

-- the start's rank is 0, so that the grammar's value is the term that its body is
pub value-start : (G : List Rule) → IsGrammar G → (rank_at G (length G - 1) ≡ 0) × (value G ≡ meaning term_algebra (ranks_of G) (all_meanings term_algebra G) (body_at G (length G - 1)) [])
value-start G g =
    let some = g.some in
    let last : ℕ = length G - 1 in
    let h : last < length G = omega arith in
    let z : rank_at G last ≡ 0 = (g.each last h).shaped.start (omega arith) in
    (z, memo-at term_algebra G g last h (holes 0 (rank_at G last)) ∙ ap (λ k. meaning term_algebra (ranks_of G) (all_meanings term_algebra G) (body_at G last) (holes 0 k)) z)

-- the term that a list of labels is, of which one parameter takes a subterm's place
abbrev pub context : List Rule → List Label → List Label → Term
context G front back = meaning term_algebra (ranks_of G) (all_meanings term_algebra G) (front ++ (Param ∷ back)) (holes 0 1)

-- the value is the context of a subterm of the start's body, with the subterm's term in its hole
pub value-cut : (G : List Rule) → IsGrammar G → (front sub back : List Label) → body_at G (length G - 1) ≡ front ++ (sub ++ back) → IsTerm (ranks_of G) sub
    → value G ≡ substitute (context G front back) (meaning term_algebra (ranks_of G) (all_meanings term_algebra G) sub [] ∷ [])
value-cut G g front sub back e t =
    let some = g.some in
    let ranks : List ℕ = ranks_of G in
    let fs : List (List Term → Term) = all_meanings term_algebra G in
    let last : ℕ = length G - 1 in
    let s = value-start G g in
    let none : params (front ++ (sub ++ back)) ≡ 0 = ap params (sym e) ∙ (g.each last (omega arith)).linear ∙ s.0 in
    let p0 : params front ≡ 0 = omega (arith, none, params-append front (sub ++ back), params-append sub back) in
    let p1 : params back ≡ 0 = omega (arith, none, params-append front (sub ++ back), params-append sub back) in
    let w = meanings-whole term_algebra ranks fs 1 [] sub [] t in
    let o = only Leaf (meanings term_algebra ranks fs [] sub []) w.1 in
    let cut = meanings-cut term_algebra ranks fs front back sub t p0 p1 in
    s.1 ∙ ap (λ ls. meaning term_algebra ranks fs ls []) e ∙ ap (λ ms. get_or ms 0 Leaf) cut
    ∙ ap (meaning term_algebra ranks fs (front ++ (Param ∷ back))) o
    ∙ meaning-substitute G (front ++ (Param ∷ back)) (meaning term_algebra ranks fs sub [] ∷ [])
