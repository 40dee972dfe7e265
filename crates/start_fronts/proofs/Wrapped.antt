-- A body that is put around a node of the start, which comes last in it: what stands before the node is the same, and what stands from it on.
use Rattle.std.proofs.Common.{◌≡◌, ◌⊎◌, inl, inr, ℕ, zero, suc, ◌+◌, ◌-◌, List, [], ◌∷◌, ◌++◌, drop, get_or, length, take, refl, sym, ap, ◌∙◌, subst, arith, append-nil, append_assoc, length-append}
use Rattle.std.proofs.lemmas.List.{length-take-le, take-append-drop}
use Rattle.rule_arena.specs.Preorder.{AreTerms, span, subterm}
use Rattle.rule_arena.specs.Terms.{Node, kids_of}
use Rattle.rule_arena.specs.declared.key.Key.{Key}
use Rattle.rule_arena.specs.declared.label.Label.{Label}
use Rattle.rule_arena.specs.declared.label.Label.TheVariants.{Bottom, Symbol, Call, Param}
use Rattle.slt_grammar.specs.Algebras.{ranks_of}
use Rattle.slt_grammar.specs.Bodies.{CallsBelow, arity, params}
use Rattle.slt_grammar.specs.Copying.{copied}
use Rattle.slt_grammar.specs.Keyed.{IsKeyed, Keyed, nodes_at, rules_of}
use Rattle.slt_grammar.specs.Segments.{part_of}
use Rattle.slt_grammar.specs.Tours.{Stop, stop, opened_kids}
use Rattle.slt_grammar.specs.Wrapping.{IsInStart, IsWrapped, IsWrapper, around, nodes_of}
use Rattle.slt_grammar.specs.declared.rules.Rule.{Rule}
use Rattle.slt_grammar.proofs.KeyedLemmas.{key_at-within}
use Rattle.slt_grammar.proofs.Meanings.{params-append}
use Rattle.start_fronts.specs.Edits.{CallsAreLeaves}
use Rattle.start_fronts.specs.Moved.{MovesBefore, weight_before}
use Rattle.start_fronts.proofs.Alike.{Behind}
use Rattle.start_fronts.proofs.Starts.{nodes-new, start-is, values-below}
use Rattle.start_fronts.proofs.Stacks.{but_last, last_part, length-but_last, length-opened, opened-onto, opens}
use Rattle.start_fronts.proofs.Windows.{moves-around, spelt}

-- what stands in the place of what is to come
abbrev leaf : Key → Node
leaf key = record { key = key; label = Param; kids = 0 }

-- a node that is a leaf, or stands for nothing behind its children
abbrev IsShut : List Rule → Node → Type 0
IsShut Y n = (n.kids ≡ 0) ⊎ ((i : ℕ) → part_of Y n.label (suc i) ≡ [])

abbrev AreShut : List Rule → List Node → Type 0
AreShut Y [] = Unit {0}
AreShut Y (n ∷ ns) = IsShut Y n × AreShut Y ns

module _ (ranks : List ℕ) (key : Key) where
  -- a copy of a body with its parameter at its end
  copied-front : (front : List Label) (t : List Node) (keys : List Key) → params front ≡ 0
      → copied (nodes_of ranks key (front ++ (Param ∷ []))) (t ∷ []) keys ≡ copied (nodes_of ranks key front) [] keys ++ t
  copied-front [] t keys z = append-nil t
  copied-front (Bottom ∷ front) t keys z = ap (λ ns. record { key = get_or keys 0 key; label = Bottom; kids = 0 } ∷ ns) (copied-front front t (drop 1 keys) z)
  copied-front (Symbol f ∷ front) t keys z = ap (λ ns. record { key = get_or keys 0 key; label = Symbol f; kids = 2 } ∷ ns) (copied-front front t (drop 1 keys) z)
  copied-front (Call q ∷ front) t keys z = ap (λ ns. record { key = get_or keys 0 key; label = Call q; kids = arity ranks (Call q) } ∷ ns) (copied-front front t (drop 1 keys) z)
  copied-front (Param ∷ front) t keys z = absurd (omega (arith, z))

  terms-copied : (n : ℕ) (front : List Label) (keys : List Key) → params front ≡ 0 → AreTerms (arity ranks) n (front ++ (Param ∷ []))
      → AreTerms kids_of n (copied (nodes_of ranks key front) [] keys ++ (leaf key ∷ []))
  terms-copied zero [] keys z t = absurd t
  terms-copied (suc n) [] keys z t = t
  terms-copied zero (l ∷ front) keys z t = absurd t
  terms-copied (suc n) (Bottom ∷ front) keys z t = terms-copied (0 + n) front (drop 1 keys) z t
  terms-copied (suc n) (Symbol f ∷ front) keys z t = terms-copied (2 + n) front (drop 1 keys) z t
  terms-copied (suc n) (Call q ∷ front) keys z t = terms-copied (arity ranks (Call q) + n) front (drop 1 keys) z t
  terms-copied (suc n) (Param ∷ front) keys z t = absurd (omega (arith, z))

  shut-copied : (Y : List Rule) (front : List Label) (keys : List Key) → params front ≡ 0 → CallsAreLeaves ranks (front ++ (Param ∷ [])) → AreShut Y (copied (nodes_of ranks key front) [] keys)
  shut-copied Y [] keys z c = tt
  shut-copied Y (Bottom ∷ front) keys z c = (inl refl, shut-copied Y front (drop 1 keys) z c)
  shut-copied Y (Symbol f ∷ front) keys z c = (inr (λ i. refl), shut-copied Y front (drop 1 keys) z c)
  shut-copied Y (Call q ∷ front) keys z c = (inl c.0, shut-copied Y front (drop 1 keys) z c.1)
  shut-copied Y (Param ∷ front) keys z c = absurd (omega (arith, z))

pub plain-leaves : (ranks : List ℕ) (body : List Label) → CallsBelow 0 body → CallsAreLeaves ranks body
plain-leaves ranks [] c = tt
plain-leaves ranks (Bottom ∷ ls) c = plain-leaves ranks ls c
plain-leaves ranks (Symbol f ∷ ls) c = plain-leaves ranks ls c
plain-leaves ranks (Param ∷ ls) c = plain-leaves ranks ls c
plain-leaves ranks (Call q ∷ ls) c = let l = c.0 in absurd (omega (arith, l))

not-none : (ns : List Node) (n : Node) → AreTerms kids_of 0 (ns ++ (n ∷ [])) → ⊥
not-none [] n t = t
not-none (x ∷ ns) n t = t

module _ (Y : List Rule) (key : Key) where
  -- shut nodes that lack their last leaf leave open what was open
  leaves-open : (before : List (List (Stop Node))) (after : List (Stop Node)) (rest : List (List (Stop Node))) (ns : List Node) → AreTerms kids_of (suc (length before)) (ns ++ (leaf key ∷ [])) → AreShut Y ns
      → (i : ℕ) → spelt Y (get_or (opens kids_of (before ++ (after ∷ rest)) ns) i []) ≡ spelt Y (get_or (after ∷ rest) i [])
  leaves-open [] after rest [] t s i = refl
  leaves-open (b ∷ before) after rest [] t s i = let z : 0 + suc (length before) ≡ suc (length before) = omega arith in absurd (subst (λ (n : ℕ). AreTerms kids_of n []) z t)
  leaves-open [] after rest (x ∷ ns) t s i = at x.kids refl (subst (λ (n : ℕ). AreTerms kids_of n (ns ++ (leaf key ∷ []))) sum t) (λ Q b u. leaves-open Q b rest ns u s.1 i)
    where
      sum : x.kids + 0 ≡ x.kids
      sum = omega arith

      first : (p : ℕ) → IsShut Y x → (k : ℕ) → x.kids ≡ suc k → (j : ℕ) → spelt Y (get_or ((stop x (suc p) ∷ after) ∷ rest) j []) ≡ spelt Y (get_or (after ∷ rest) j [])
      first p (inl z) k e j = absurd (omega (arith, z, e))
      first p (inr none) k e zero = ap (λ ls. ls ++ spelt Y after) (none p)
      first p (inr none) k e (suc j) = refl

      at : (k : ℕ) → x.kids ≡ k → AreTerms kids_of k (ns ++ (leaf key ∷ []))
          → ((Q : List (List (Stop Node))) (b : List (Stop Node)) → AreTerms kids_of (suc (length Q)) (ns ++ (leaf key ∷ [])) → spelt Y (get_or (opens kids_of (Q ++ (b ∷ rest)) ns) i []) ≡ spelt Y (get_or (b ∷ rest) i []))
          → spelt Y (get_or (opens kids_of (opened_kids x 1 k after ++ rest) ns) i []) ≡ spelt Y (get_or (after ∷ rest) i [])
      at zero e u ih = absurd (not-none ns (leaf key) u)
      at (suc k) e u ih =
          let Q = but_last kids_of x 1 k in
          let p = last_part kids_of 0 k in
          ap (λ st. spelt Y (get_or (opens kids_of st ns) i [])) (opened-onto kids_of x k after rest)
          ∙ ih Q (stop x (suc p) ∷ after) (subst (λ (n : ℕ). AreTerms kids_of n (ns ++ (leaf key ∷ []))) (ap suc (sym (length-but_last kids_of x 1 k))) u)
          ∙ first p s.0 k e i
  leaves-open (b ∷ before) after rest (x ∷ ns) t s i =
      let opened = opened_kids x 1 x.kids b in
      let len : length (opened ++ before) ≡ x.kids + length before = omega (arith, length-append opened before, length-opened kids_of x 1 x.kids b) in
      let n : x.kids + suc (length before) ≡ suc (length (opened ++ before)) = omega (arith, len) in
      ap (λ st. spelt Y (get_or (opens kids_of st ns) i [])) (sym (append_assoc opened before (after ∷ rest)))
      ∙ leaves-open (opened ++ before) after rest ns (subst (λ (m : ℕ). AreTerms kids_of m (ns ++ (leaf key ∷ []))) n t) s.1 i

  body-leaves : (X : List Rule) (ns : List Node) → AreTerms kids_of 1 (ns ++ (leaf key ∷ [])) → AreShut Y ns → (st : List (List (Stop Node))) → Behind X Y st st → Behind X Y st (opens kids_of st ns)
  body-leaves X ns t s (a ∷ st) b i = leaves-open [] a st ns t s i ∙ b i
  body-leaves X [] t s [] b i = b i
  body-leaves X (x ∷ ns) t s [] b i = leaves-open [] [] [] (x ∷ ns) t s i ∙ nothing i
    where
      nothing : (j : ℕ) → spelt Y (get_or ([] ∷ []) j []) ≡ []
      nothing zero = refl
      nothing (suc j) = refl

pub moves-wrapped : (g h : Keyed) → IsKeyed g → IsKeyed h → (key : Key) (front body : List Label) (S : IsInStart g.rules key)
    → IsWrapper (rules_of g.rules) body → body ≡ front ++ (Param ∷ []) → CallsAreLeaves (ranks_of (rules_of g.rules)) body
    → IsWrapped g.rules h.rules S.here.rule S.here.place key body → (w : Label → ℕ) → MovesBefore w [] (weight_before w g.rules S.here.place) g.rules h.rules
moves-wrapped g h K M key front body S W last leaves is w =
    let r : ℕ = S.here.rule in
    let p : ℕ = S.here.place in
    let ns : List Node = nodes_at g.rules r in
    let ranks : List ℕ = ranks_of (rules_of g.rules) in
    let A : List Node = take p ns in
    let term : List Node = subterm kids_of ns p in
    let back : List Node = drop (span kids_of 1 (drop p ns)) (drop p ns) in
    let V : List Node = copied (nodes_of ranks key front) [] is.keys in
    let ms : List Node = around ns p (nodes_of ranks key body) is.keys in
    let inside = (key_at-within g.rules r p key S.here.there).1 in
    let at : length A ≡ p = length-take-le p ns (omega (arith, inside)) in
    let none : params front ≡ 0 = omega (arith, params-append front (Param ∷ []), ap params last, W.linear) in
    let old : nodes_at g.rules (length g.rules - 1) ≡ A ++ ([] ++ drop p ns) = ap (nodes_at g.rules) (sym (start-is g h K r ms S.start is.rules)) ∙ sym (take-append-drop p ns) in
    let new : nodes_at h.rules (length h.rules - 1) ≡ A ++ (V ++ drop p ns) =
    nodes-new g h K r ms S.start is.rules
    ∙ ap (λ ls. A ++ (copied (nodes_of ranks key ls) (term ∷ []) is.keys ++ back)) last
    ∙ ap (λ xs. A ++ (xs ++ back)) (copied-front ranks key front term is.keys none)
    ∙ ap (λ xs. A ++ xs) (append_assoc V term back ∙ ap (λ xs. V ++ xs) (take-append-drop (span kids_of 1 (drop p ns)) (drop p ns))) in
    subst (λ (i : ℕ). MovesBefore w [] (weight_before w g.rules i) g.rules h.rules) at
    (moves-around g h K M A [] V (drop p ns) old new
    (values-below g h K r ms S.start is.rules)
    (body-leaves (rules_of h.rules) key (rules_of g.rules) V
    (terms-copied ranks key 1 front is.keys none (subst (λ (ls : List Label). AreTerms (arity ranks) 1 ls) last W.term))
    (shut-copied ranks key (rules_of h.rules) front is.keys none (subst (λ (ls : List Label). CallsAreLeaves ranks ls) last leaves))
    (opens kids_of ([] ∷ []) A))
    w (λ i l. absurd (omega (arith, l))))
