-- A rule that nobody calls, put in with renumbering, changes no other rule's meaning.
use Rattle.std.proofs.Common.{◌≡◌, ℕ, zero, suc, ◌<◌, ◌≤◌, List, [], ◌∷◌, ◌++◌, length, get_or, take, drop, map, refl, ap, sym, ◌∙◌, arith, append_assoc, append-nil}
use Rattle.std.proofs.Math.Path.{fun_ext}
use Rattle.std.proofs.lemmas.List.{take-append-drop, length-take-le, map-append, length-map, get_or_append_left, get_or_at, get_or-take}
use Rattle.rule_arena.specs.declared.label.Label.{Label}
use Rattle.rule_arena.specs.declared.label.Label.TheVariants.{Bottom, Symbol, Call, Param}
use Rattle.slt_grammar.specs.Bodies.{CallsBelow}
use Rattle.slt_grammar.specs.Algebras.{Algebra, meanings, meaning, rule_meanings, ranks_of, all_meanings}
use Rattle.slt_grammar.specs.Grammars.{IsGrammar, body_at, no_rule}
use Rattle.slt_grammar.specs.Editing.{shifted, shifted_label, shifted_rule, rule_added}
use Rattle.slt_grammar.specs.declared.rules.Rule.{Rule}
use Rattle.slt_grammar.proofs.RuleMeanings.{rule_meanings-append, length-rule_meanings}

-- the item at a shifted place, once an item was put in
pub get_or-shifted : {X : Type 0} (xs : List X) (y : X) (ys : List X) (q : ℕ) (d : X) → get_or (xs ++ y ∷ ys) (shifted (length xs) q) d ≡ get_or (xs ++ ys) q d
get_or-shifted [] y ys q d = refl
get_or-shifted (x ∷ xs) y ys zero d = refl
get_or-shifted (x ∷ xs) y ys (suc q) d = get_or-shifted xs y ys q d

module _ {S : Type 0} (A : Algebra S) (ranks ranks' : List ℕ) (place : ℕ) (same_ranks : (q : ℕ) → get_or ranks' (shifted place q) 0 ≡ get_or ranks q 0) where
  pub meanings-shifted : (fs gs : List (List S → S)) → ((q : ℕ) → get_or gs (shifted place q) (λ _. A.bottom) ≡ get_or fs q (λ _. A.bottom)) → (args : List S) (ls : List Label) (rest : List S) → meanings A ranks' gs args (map (shifted_label place) ls) rest ≡ meanings A ranks fs args ls rest
  meanings-shifted fs gs e args [] rest = refl
  meanings-shifted fs gs e args (Param ∷ ls) rest = ap (λ ms. get_or args 0 A.bottom ∷ ms) (meanings-shifted fs gs e (drop 1 args) ls rest)
  meanings-shifted fs gs e args (Bottom ∷ ls) rest = rw (meanings-shifted fs gs e args ls rest)
  meanings-shifted fs gs e args (Symbol f ∷ ls) rest = rw (meanings-shifted fs gs e args ls rest)
  meanings-shifted fs gs e args (Call q ∷ ls) rest = rw (meanings-shifted fs gs e args ls rest, same_ranks q, e q)

  -- the rules behind the new one mean what they meant
  pub rule_meanings-shifted : (xs ys : List (List S → S)) (f : List S → S) (H : List Rule) → length xs ≡ place → (zs : List (List S → S)) × (rule_meanings A ranks (xs ++ ys) H ≡ xs ++ zs) × (rule_meanings A ranks' (xs ++ f ∷ ys) (map (shifted_rule place) H) ≡ xs ++ f ∷ zs)
  rule_meanings-shifted xs ys f [] e = (ys, refl, refl)
  rule_meanings-shifted xs ys f (R ∷ Rs) e =
      let h : (q : ℕ) → get_or (xs ++ f ∷ ys) (shifted place q) (λ _. A.bottom) ≡ get_or (xs ++ ys) q (λ _. A.bottom) = λ q. rw (← e) (get_or-shifted xs f ys q (λ _. A.bottom)) in
      let m : meaning A ranks' (xs ++ f ∷ ys) (map (shifted_label place) R.body) ≡ meaning A ranks (xs ++ ys) R.body = fun_ext (λ args. ap (λ ms. get_or ms 0 A.bottom) (meanings-shifted (xs ++ ys) (xs ++ f ∷ ys) h args R.body [])) in
      let ih = rule_meanings-shifted xs (ys ++ meaning A ranks (xs ++ ys) R.body ∷ []) f Rs e in
      let g : rule_meanings A ranks' ((xs ++ f ∷ ys) ++ meaning A ranks' (xs ++ f ∷ ys) (map (shifted_label place) R.body) ∷ []) (map (shifted_rule place) Rs) ≡ xs ++ f ∷ ih.0 =
      rw (m, append_assoc xs (f ∷ ys) (meaning A ranks (xs ++ ys) R.body ∷ [])) ih.2 in
      (ih.0, rw (append_assoc xs ys (meaning A ranks (xs ++ ys) R.body ∷ [])) ih.1, g)

module _ {S : Type 0} (A : Algebra S) (ranks ranks' : List ℕ) (place : ℕ) (same_ranks : (q : ℕ) → q < place → get_or ranks' q 0 ≡ get_or ranks q 0) where
  -- the rules before the new one call none behind it
  pub meanings-before : (fs : List (List S → S)) (args : List S) (ls : List Label) (rest : List S) → CallsBelow place ls → meanings A ranks' fs args ls rest ≡ meanings A ranks fs args ls rest
  meanings-before fs args [] rest c = refl
  meanings-before fs args (Param ∷ ls) rest c = ap (λ ms. get_or args 0 A.bottom ∷ ms) (meanings-before fs (drop 1 args) ls rest c)
  meanings-before fs args (Bottom ∷ ls) rest c = rw (meanings-before fs args ls rest c)
  meanings-before fs args (Symbol f ∷ ls) rest c = rw (meanings-before fs args ls rest c)
  meanings-before fs args (Call q ∷ ls) rest c = rw (meanings-before fs args ls rest c.1, same_ranks q c.0)

  rule_meanings-before : (fs : List (List S → S)) (H : List Rule) → ((q : ℕ) → q < length H → CallsBelow place (body_at H q)) → rule_meanings A ranks' fs H ≡ rule_meanings A ranks fs H
  rule_meanings-before fs [] c = refl
  rule_meanings-before fs (R ∷ Rs) c =
      let m : meaning A ranks' fs R.body ≡ meaning A ranks fs R.body = fun_ext (λ args. ap (λ ms. get_or ms 0 A.bottom) (meanings-before fs args R.body [] (c 0 (omega arith)))) in
      rw m (rule_meanings-before (fs ++ meaning A ranks fs R.body ∷ []) Rs (λ q h. c (suc q) (omega arith)))

pub CallsBelow-le : (m n : ℕ) (ls : List Label) → m ≤ n → CallsBelow m ls → CallsBelow n ls
CallsBelow-le m n [] h c = tt
CallsBelow-le m n (Bottom ∷ ls) h c = CallsBelow-le m n ls h c
CallsBelow-le m n (Symbol f ∷ ls) h c = CallsBelow-le m n ls h c
CallsBelow-le m n (Param ∷ ls) h c = CallsBelow-le m n ls h c
CallsBelow-le m n (Call q ∷ ls) h c = (omega (arith, c.0), CallsBelow-le m n ls h c.1)

ranks-shifted : (place : ℕ) (H : List Rule) → ranks_of (map (shifted_rule place) H) ≡ ranks_of H
ranks-shifted place [] = refl
ranks-shifted place (R ∷ Rs) = ap (λ ns. R.rank ∷ ns) (ranks-shifted place Rs)

pub ranks-added : (G : List Rule) (place : ℕ) (R : Rule) → ranks_of (rule_added G place R) ≡ ranks_of (take place G) ++ R.rank ∷ ranks_of (drop place G)
ranks-added G place R =
    map-append (λ (Q : Rule). Q.rank) (take place G) (R ∷ map (shifted_rule place) (drop place G))
    ∙ ap (λ ns. ranks_of (take place G) ++ R.rank ∷ ns) (ranks-shifted place (drop place G))

module _ (G : List Rule) (place : ℕ) (R : Rule) (p : place ≤ length G) where
  ranks-whole : ranks_of (take place G) ++ ranks_of (drop place G) ≡ ranks_of G
  ranks-whole = sym (map-append (λ (Q : Rule). Q.rank) (take place G) (drop place G)) ∙ ap ranks_of (take-append-drop place G)

  length-ranks : length (ranks_of (take place G)) ≡ place
  length-ranks = length-map (take place G) (λ (Q : Rule). Q.rank) ∙ length-take-le place G p

  -- the ranks are those that the rules had
  pub ranks-behind : (q : ℕ) → get_or (ranks_of (rule_added G place R)) (shifted place q) 0 ≡ get_or (ranks_of G) q 0
  ranks-behind q =
      rw (ranks-added G place R, ← ranks-whole)
      (ap (λ k. get_or (ranks_of (take place G) ++ R.rank ∷ ranks_of (drop place G)) (shifted k q) 0) (sym length-ranks)
      ∙ get_or-shifted (ranks_of (take place G)) R.rank (ranks_of (drop place G)) q 0)

  pub ranks-before : (q : ℕ) → q < place → get_or (ranks_of (rule_added G place R)) q 0 ≡ get_or (ranks_of G) q 0
  ranks-before q h =
      let l : q < length (ranks_of (take place G)) = omega (arith, length-ranks) in
      rw (ranks-added G place R, ← ranks-whole)
      (get_or_append_left (ranks_of (take place G)) (R.rank ∷ ranks_of (drop place G)) 0 q l ∙ sym (get_or_append_left (ranks_of (take place G)) (ranks_of (drop place G)) 0 q l))

module _ {S : Type 0} (A : Algebra S) (G : List Rule) (place : ℕ) (R : Rule) (g : IsGrammar G) (p : place ≤ length G) where
  calls-before : (q : ℕ) → q < length (take place G) → CallsBelow place (body_at (take place G) q)
  calls-before q h =
      let n : length (take place G) ≡ place = length-take-le place G p in
      let b : body_at (take place G) q ≡ body_at G q = ap (λ (Q : Rule). Q.body) (get_or-take place G q no_rule (omega (arith, n))) in
      rw b (CallsBelow-le q place (body_at G q) (omega (arith, n)) (g.each q (omega (arith, n))).earlier)

  -- what the rules mean with the new one among them
  pub rule_meanings-added : (zs : List (List S → S)) × (all_meanings A G ≡ rule_meanings A (ranks_of G) [] (take place G) ++ zs)
      × (all_meanings A (rule_added G place R) ≡ rule_meanings A (ranks_of G) [] (take place G) ++ meaning A (ranks_of (rule_added G place R)) (rule_meanings A (ranks_of G) [] (take place G)) R.body ∷ zs)
  rule_meanings-added =
      let ranks : List ℕ = ranks_of G in
      let ranks' : List ℕ = ranks_of (rule_added G place R) in
      let xs : List (List S → S) = rule_meanings A ranks [] (take place G) in
      let f : List S → S = meaning A ranks' xs R.body in
      let n : length xs ≡ place = omega (arith, length-rule_meanings A ranks [] (take place G), length-take-le place G p) in
      let s = rule_meanings-shifted A ranks ranks' place (ranks-behind G place R p) xs [] f (drop place G) n in
      let e : rule_meanings A ranks' [] (take place G) ≡ xs = rule_meanings-before A ranks ranks' place (ranks-before G place R p) [] (take place G) calls-before in
      let old : all_meanings A G ≡ xs ++ s.0 =
      ap (rule_meanings A ranks []) (sym (take-append-drop place G)) ∙ rule_meanings-append A ranks [] (take place G) (drop place G) ∙ rw append-nil at s.1 in
      let new : all_meanings A (rule_added G place R) ≡ xs ++ f ∷ s.0 =
      rule_meanings-append A ranks' [] (take place G) (R ∷ map (shifted_rule place) (drop place G))
      ∙ ap (λ ys. rule_meanings A ranks' ys (R ∷ map (shifted_rule place) (drop place G))) e ∙ s.2 in
      (s.0, old, new)

  length-before : length (rule_meanings A (ranks_of G) [] (take place G)) ≡ place
  length-before = omega (arith, length-rule_meanings A (ranks_of G) [] (take place G), length-take-le place G p)

  pub adding-keeps : (r : ℕ) → r < length G → get_or (all_meanings A (rule_added G place R)) (shifted place r) (λ _. A.bottom) ≡ get_or (all_meanings A G) r (λ _. A.bottom)
  adding-keeps r h =
      let a = rule_meanings-added in
      let xs : List (List S → S) = rule_meanings A (ranks_of G) [] (take place G) in
      let f : List S → S = meaning A (ranks_of (rule_added G place R)) xs R.body in
      rw (a.1, a.2) (ap (λ k. get_or (xs ++ f ∷ a.0) (shifted k r) (λ _. A.bottom)) (sym length-before) ∙ get_or-shifted xs f a.0 r (λ _. A.bottom))

  -- the new rule means what its body means over the rules before it
  pub added-means : get_or (all_meanings A (rule_added G place R)) place (λ _. A.bottom) ≡ meaning A (ranks_of (rule_added G place R)) (rule_meanings A (ranks_of G) [] (take place G)) R.body
  added-means =
      let a = rule_meanings-added in
      let xs : List (List S → S) = rule_meanings A (ranks_of G) [] (take place G) in
      let f : List S → S = meaning A (ranks_of (rule_added G place R)) xs R.body in
      rw a.2 (get_or_at xs f a.0 (λ _. A.bottom) place length-before)
