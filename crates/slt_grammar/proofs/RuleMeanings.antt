-- What rules mean along a list of rules.
use Rattle.std.proofs.Common.{◌≡◌, ℕ, zero, suc, ◌+◌, ◌<◌, List, [], ◌∷◌, ◌++◌, length, get_or, take, drop, refl, ap, sym, ◌∙◌, arith, length-append, append_assoc, append-nil, add-zero, zero-add}
use Rattle.std.proofs.Math.Path.{fun_ext}
use Rattle.std.proofs.Math.ListN.{get_or-map}
use Rattle.std.proofs.lemmas.List.{get_or_append_left, get_or_at, drop_more, take-append-drop, length-take-le}
use Rattle.rule_arena.specs.declared.label.Label.{Label}
use Rattle.rule_arena.specs.declared.label.Label.TheVariants.{Bottom, Symbol, Call, Param}
use Rattle.slt_grammar.specs.Bodies.{CallsBelow}
use Rattle.slt_grammar.specs.Algebras.{Algebra, meanings, meaning, rule_meanings, ranks_of, all_meanings}
use Rattle.slt_grammar.specs.Grammars.{IsGrammar, body_at, rank_at, no_rule}
use Rattle.slt_grammar.specs.declared.rules.Rule.{Rule}

-- the rank of a rule by the list of ranks
pub rank_at-ranks_of : (G : List Rule) (r : ℕ) → get_or (ranks_of G) r 0 ≡ rank_at G r
rank_at-ranks_of G r = get_or-map (λ (R : Rule). R.rank) G r no_rule

module _ {S : Type 0} (A : Algebra S) (ranks : List ℕ) where
  -- to a body the later rules mean nothing
  pub meanings-earlier : (fs more : List (List S → S)) (args : List S) (ls : List Label) (rest : List S) → CallsBelow (length fs) ls → meanings A ranks (fs ++ more) args ls rest ≡ meanings A ranks fs args ls rest
  meanings-earlier fs more args [] rest c = refl
  meanings-earlier fs more args (Param ∷ ls) rest c = ap (λ ms. get_or args 0 A.bottom ∷ ms) (meanings-earlier fs more (drop 1 args) ls rest c)
  meanings-earlier fs more args (Bottom ∷ ls) rest c = rw (meanings-earlier fs more args ls rest c)
  meanings-earlier fs more args (Symbol f ∷ ls) rest c = rw (meanings-earlier fs more args ls rest c)
  meanings-earlier fs more args (Call q ∷ ls) rest c = rw (meanings-earlier fs more args ls rest c.1, get_or_append_left fs more (λ _. A.bottom) q c.0)

  pub length-rule_meanings : (fs : List (List S → S)) (G : List Rule) → length (rule_meanings A ranks fs G) ≡ length fs + length G
  length-rule_meanings fs [] = rw (add-zero (length fs)) refl
  length-rule_meanings fs (R ∷ Rs) = omega (arith, length-rule_meanings (fs ++ meaning A ranks fs R.body ∷ []) Rs, length-append fs (meaning A ranks fs R.body ∷ []))

  pub rule_meanings-append : (fs : List (List S → S)) (G H : List Rule) → rule_meanings A ranks fs (G ++ H) ≡ rule_meanings A ranks (rule_meanings A ranks fs G) H
  rule_meanings-append fs [] H = refl
  rule_meanings-append fs (R ∷ Rs) H = rule_meanings-append (fs ++ meaning A ranks fs R.body ∷ []) Rs H

  -- the meanings of the rules before stay in front
  pub rule_meanings-front : (fs : List (List S → S)) (G : List Rule) → (more : List (List S → S)) × (rule_meanings A ranks fs G ≡ fs ++ more)
  rule_meanings-front fs [] = ([], sym (append-nil fs))
  rule_meanings-front fs (R ∷ Rs) =
      let ih = rule_meanings-front (fs ++ meaning A ranks fs R.body ∷ []) Rs in
      (meaning A ranks fs R.body ∷ ih.0, ih.1 ∙ append_assoc fs (meaning A ranks fs R.body ∷ []) ih.0)

  -- a rule means what its body means over the rules before it
  pub rule_meanings-at : (fs : List (List S → S)) (G : List Rule) (R : Rule) (H : List Rule) → get_or (rule_meanings A ranks fs (G ++ R ∷ H)) (length fs + length G) (λ _. A.bottom) ≡ meaning A ranks (rule_meanings A ranks fs G) R.body
  rule_meanings-at fs G R H =
      let before : List (List S → S) = rule_meanings A ranks fs G in
      let f = rule_meanings-front (before ++ meaning A ranks before R.body ∷ []) H in
      rw (rule_meanings-append fs G (R ∷ H), f.1, append_assoc before (meaning A ranks before R.body ∷ []) f.0)
      (get_or_at before (meaning A ranks before R.body) f.0 (λ _. A.bottom) (length fs + length G) (length-rule_meanings fs G))

  -- another body of the same meaning changes nothing
  pub rule_meanings-same : (fs : List (List S → S)) (G : List Rule) (R R' : Rule) (H : List Rule) → ((args : List S) → meaning A ranks (rule_meanings A ranks fs G) R'.body args ≡ meaning A ranks (rule_meanings A ranks fs G) R.body args) → rule_meanings A ranks fs (G ++ R' ∷ H) ≡ rule_meanings A ranks fs (G ++ R ∷ H)
  rule_meanings-same fs G R R' H e =
      let before : List (List S → S) = rule_meanings A ranks fs G in
      rw (rule_meanings-append fs G (R' ∷ H), rule_meanings-append fs G (R ∷ H)) (ap (λ f. rule_meanings A ranks (before ++ f ∷ []) H) (fun_ext e))

  -- a rule that calls earlier rules alone means what its body means over all rules
  pub rule-means : (H : List Rule) (q : ℕ) (args : List S) → q < length H → CallsBelow q (body_at H q) → get_or (rule_meanings A ranks [] H) q (λ _. A.bottom) args ≡ get_or (meanings A ranks (rule_meanings A ranks [] H) args (body_at H q) []) 0 A.bottom
  rule-means H r args h b =
      let R : Rule = get_or H r no_rule in
      let before : List (List S → S) = rule_meanings A ranks [] (take r H) in
      let e : H ≡ take r H ++ R ∷ drop (r + 1) H = sym (rw (← drop_more H r no_rule h) (take-append-drop r H)) in
      let n : length (take r H) ≡ r = length-take-le r H (omega arith) in
      let m : length before ≡ r = omega (arith, length-rule_meanings [] (take r H)) in
      let f = rule_meanings-front before (R ∷ drop (r + 1) H) in
      let whole : rule_meanings A ranks [] H ≡ before ++ f.0 = ap (rule_meanings A ranks []) e ∙ rule_meanings-append [] (take r H) (R ∷ drop (r + 1) H) ∙ f.1 in
      let at : get_or (rule_meanings A ranks [] H) r (λ _. A.bottom) ≡ meaning A ranks before R.body =
      ap (λ K. get_or (rule_meanings A ranks [] K) r (λ _. A.bottom)) e ∙ rw (zero-add (length (take r H)), n) at (rule_meanings-at [] (take r H) R (drop (r + 1) H)) in
      let c : CallsBelow (length before) (body_at H r) = rw m b in
      ap (λ k. k args) at ∙ sym (rw (whole, meanings-earlier before f.0 args (body_at H r) [] c) refl)

-- a rule of a grammar means what its body means over the meanings of all rules
pub memo-at : {S : Type 0} (A : Algebra S) (G : List Rule) → IsGrammar G → (r : ℕ) → r < length G → (args : List S) → get_or (all_meanings A G) r (λ _. A.bottom) args ≡ get_or (meanings A (ranks_of G) (all_meanings A G) args (body_at G r) []) 0 A.bottom
memo-at A G g r h args = rule-means A (ranks_of G) G r args h (g.each r h).earlier

pub length-all_meanings : {S : Type 0} (A : Algebra S) (G : List Rule) → length (all_meanings A G) ≡ length G
length-all_meanings A G = length-rule_meanings A (ranks_of G) [] G ∙ zero-add (length G)

-- the label at a place of a body calls an earlier rule too
pub CallsBelow-at : (limit j : ℕ) (body : List Label) → CallsBelow limit body → CallsBelow limit (get_or body j Bottom ∷ [])
CallsBelow-at limit j [] c = tt
CallsBelow-at limit zero (Bottom ∷ ls) c = tt
CallsBelow-at limit zero (Symbol f ∷ ls) c = tt
CallsBelow-at limit zero (Param ∷ ls) c = tt
CallsBelow-at limit zero (Call q ∷ ls) c = (c.0, tt)
CallsBelow-at limit (suc j) (Bottom ∷ ls) c = CallsBelow-at limit j ls c
CallsBelow-at limit (suc j) (Symbol f ∷ ls) c = CallsBelow-at limit j ls c
CallsBelow-at limit (suc j) (Param ∷ ls) c = CallsBelow-at limit j ls c
CallsBelow-at limit (suc j) (Call q ∷ ls) c = CallsBelow-at limit j ls c.1

pub call-earlier : (limit j q : ℕ) (body : List Label) → CallsBelow limit body → get_or body j Bottom ≡ Call q → q < limit
call-earlier limit j q body c e = (rw e at (CallsBelow-at limit j body c)).0
