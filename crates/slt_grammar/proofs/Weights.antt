-- Labels that are counted with weights, so that one law serves calls and nodes.
use Rattle.std.proofs.Common.{◌≡◌, ℕ, zero, suc, ◌+◌, ◌<◌, List, [], ◌∷◌, ◌++◌, length, take, drop, refl, ap, ◌∙◌, arith}
use Rattle.std.specs.Prelude.{if◌then◌else◌, eqb}
use Rattle.std.proofs.lemmas.List.Sums.{sum_by-cons}
use Rattle.rule_arena.specs.Preorder.{span, subterm, with_subterm}
use Rattle.rule_arena.specs.declared.label.Label.{Label}
use Rattle.rule_arena.specs.declared.label.Label.TheVariants.{Bottom, Symbol, Call, Param}
use Rattle.rule_arena.proofs.PreorderLemmas.{split_at}
use Rattle.slt_grammar.specs.Bodies.{real_nodes, calls_in}
use Rattle.slt_grammar.specs.Editing.{with_body}
use Rattle.slt_grammar.specs.Grammars.{body_at, rank_at, calls_of, size}
use Rattle.slt_grammar.specs.declared.rules.Rule.{Rule}

abbrev pub weigh : (Label → ℕ) → List Label → ℕ
weigh w [] = 0
weigh w (l ∷ ls) = w l + weigh w ls

abbrev pub call_weight : ℕ → Label → ℕ
call_weight q Bottom = 0
call_weight q (Symbol f) = 0
call_weight q (Call p) = if eqb p q then 1 else 0
call_weight q Param = 0

abbrev pub real_weight : Label → ℕ
real_weight Bottom = 1
real_weight (Symbol f) = 1
real_weight (Call p) = 1
real_weight Param = 0

pub calls-weigh : (q : ℕ) (ls : List Label) → calls_in q ls ≡ weigh (call_weight q) ls
calls-weigh q [] = refl
calls-weigh q (Bottom ∷ ls) = omega (arith, calls-weigh q ls)
calls-weigh q (Symbol f ∷ ls) = omega (arith, calls-weigh q ls)
calls-weigh q (Call p ∷ ls) = ap (λ (n : ℕ). (if eqb p q then 1 else 0) + n) (calls-weigh q ls)
calls-weigh q (Param ∷ ls) = omega (arith, calls-weigh q ls)

pub real-weigh : (ls : List Label) → real_nodes ls ≡ weigh real_weight ls
real-weigh [] = refl
real-weigh (Bottom ∷ ls) = omega (arith, real-weigh ls)
real-weigh (Symbol f ∷ ls) = omega (arith, real-weigh ls)
real-weigh (Call p ∷ ls) = omega (arith, real-weigh ls)
real-weigh (Param ∷ ls) = omega (arith, real-weigh ls)

pub weigh-append : (w : Label → ℕ) (xs ys : List Label) → weigh w (xs ++ ys) ≡ weigh w xs + weigh w ys
weigh-append w [] ys = omega arith
weigh-append w (x ∷ xs) ys = omega (arith, weigh-append w xs ys)

-- another term in a subterm's place
pub weigh-with : (w : Label → ℕ) (ar : Label → ℕ) (ls : List Label) (p : ℕ) (ys : List Label) → weigh w (with_subterm ar ls p ys) + weigh w (subterm ar ls p) ≡ weigh w ls + weigh w ys
weigh-with w ar ls p ys =
    let back : List Label = drop (span ar 1 (drop p ls)) (drop p ls) in
    omega (
      arith,
      weigh-append w (take p ls) (ys ++ back),
      weigh-append w ys back,
      weigh-append w (take p ls) (subterm ar ls p ++ back),
      weigh-append w (subterm ar ls p) back,
      ap (weigh w) (split_at ar ls p),
    )

-- all bodies
abbrev pub total : (Label → ℕ) → List Rule → ℕ
total w [] = 0
total w (R ∷ G) = weigh w R.body + total w G

pub calls-total : (q : ℕ) (G : List Rule) → calls_of G q ≡ total (call_weight q) G
calls-total q [] = refl
calls-total q (R ∷ G) = sum_by-cons (λ (S : Rule). calls_in q S.body) R G ∙ omega (arith, calls-weigh q R.body, calls-total q G)

pub size-total : (G : List Rule) → size G ≡ total real_weight G
size-total [] = refl
size-total (R ∷ G) = sum_by-cons (λ (S : Rule). real_nodes S.body) R G ∙ omega (arith, real-weigh R.body, size-total G)

pub total-append : (w : Label → ℕ) (G H : List Rule) → total w (G ++ H) ≡ total w G + total w H
total-append w [] H = omega arith
total-append w (R ∷ G) H = omega (arith, total-append w G H)

pub total-with_body : (w : Label → ℕ) (G : List Rule) (r : ℕ) (body : List Label) → r < length G → total w (with_body G r body) + weigh w (body_at G r) ≡ total w G + weigh w body
total-with_body w [] r body h = absurd (omega arith)
total-with_body w (R ∷ G) zero body h = omega arith
total-with_body w (R ∷ G) (suc r) body h =
    let e : suc r + 1 ≡ suc (r + 1) = omega arith in
    let ih = total-with_body w G r body (omega arith) in
    omega (arith, ih, ap (λ (m : ℕ). total w (take (suc r) (R ∷ G) ++ record { rank = rank_at (R ∷ G) (suc r); body = body } ∷ drop m (R ∷ G))) e)
