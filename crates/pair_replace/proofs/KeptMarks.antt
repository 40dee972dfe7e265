-- Marks and numbers that stay while a digram becomes a rule.
use Rattle.std.proofs.Common.{◌≡◌, ◌≢◌, inl, inr, ℕ, List, [], ◌∷◌, None, IsTrue, slice_get, refl, sym, ap, ◌∙◌, subst, arith}
use Rattle.rule_arena.specs.Terms.{kids_in}
use Rattle.rule_arena.specs.declared.key.Key.{Key}
use Rattle.slt_grammar.specs.Grammars.{value_at}
use Rattle.slt_grammar.specs.Names.{Call}
use Rattle.slt_grammar.specs.Keyed.{Keyed, KeyedRule, IsKeyed, nodes_at, rules_of}
use Rattle.slt_grammar.specs.KeyedEdits.{FoldsInto, with_nodes, folded_nodes}
use Rattle.slt_grammar.specs.RuleValues.{HasRuleMore}
use Rattle.slt_grammar.specs.declared.digram.Digram.{Digram}
use Rattle.slt_grammar.proofs.KeyedLemmas.{length-rules_of}
use Rattle.start_fronts.proofs.Folded.{keeps-folding}
use Rattle.start_fronts.proofs.Renumbered.{keeps-putting}
use Rattle.digram_index.specs.Linked.{Linked, cell, is_marked}
use Rattle.digram_index.specs.Marking.{HasNumberMore, KeepsMarked, MarksFewer, MarksNoMore}
use Rattle.digram_index.proofs.Marks.{all-more, all-none, keeps-by, keeps-still, keeps-then, keeps-unlinked}
use Rattle.digram_index.proofs.Numbered.{rules-more, same-many}
use Rattle.pair_replace.specs.Near.{IsAround}
use Rattle.pair_replace.specs.NewRules.{IsAdded}

-- the rules are those of before
pub keeps-back : (G H : List KeyedRule) (I J : Linked) → H ≡ G → MarksFewer I J → KeepsMarked G I H J
keeps-back G H I J e fewer = subst (λ (Q : List KeyedRule). KeepsMarked G I Q J) (sym e) (keeps-still G I J fewer)

-- a rule came
pub keeps-put : (g : Keyed) (H : List KeyedRule) → IsKeyed g → (d : Digram) (place : ℕ) → IsAdded g.rules H d place → (I J : Linked) → MarksNoMore I J → HasNumberMore place I J
    → KeepsMarked g.rules I H J
keeps-put g H K d place A I J fewer numbers =
    let more : HasRuleMore place (rules_of g.rules) (rules_of H) = record {
      within = let t = A.there in omega (arith, t, length-rules_of g.rules);
      more = let m = A.many in omega (arith, m, length-rules_of g.rules, length-rules_of H);
      values = λ r l. A.values r (omega (arith, l, length-rules_of g.rules));
    } in
    keeps-by [] g.rules H I J (keeps-putting g H K place A.rule A.there A.rules more) fewer (all-none (λ (k : Key). IsTrue (is_marked J k.number) → ⊥))
    (rules-more place g.rules H I J more numbers)

-- a node folded into its parent: what is near was unlinked before, and so is the node, which isn't marked then
pub keeps-fold : (g h : Keyed) → IsKeyed g → (low : Key) (q : ℕ) (F : FoldsInto g.rules low q)
    → h.rules ≡ with_nodes g.rules F.here.rule (folded_nodes (nodes_at g.rules F.here.rule) F.place F.upper F.here.place (Call q))
    → (up : Key) (siblings children : List Key) → siblings ≡ kids_in (nodes_at g.rules F.here.rule) F.place → (I mid J : Linked) → MarksFewer I mid
    → ((n : ℕ) → IsAround up siblings children n → cell mid n ≡ None) → ((k : ℕ) → IsTrue (is_marked mid k) → cell mid k ≢ None) → MarksFewer mid J
    → ((r : ℕ) → value_at (rules_of h.rules) r ≡ value_at (rules_of g.rules) r) → KeepsMarked g.rules I h.rules J
keeps-fold g h K low q F made up siblings children are_siblings I mid J before free linked after values =
    let gone = λ (k : Key). IsTrue (is_marked mid k.number) → ⊥ in
    let near : IsAround up siblings children low.number = inr (inl (F.child, (low, (ap (λ (ks : List Key). slice_get ks F.child) are_siblings ∙ F.is_child, refl)))) in
    keeps-unlinked (low ∷ []) g.rules h.rules I mid J (keeps-folding g h K low q F made) before after
    (all-more gone low [] (λ m. linked low.number m (free low.number near)) (all-none gone))
    (same-many g.rules h.rules low F.here (folded_nodes (nodes_at g.rules F.here.rule) F.place F.upper F.here.place (Call q)) made) values

-- one change after another, and the index alone at last
pub keeps-both : (G H K : List KeyedRule) (I J L M : Linked) → KeepsMarked G I H J → KeepsMarked H J K L → MarksFewer L M → KeepsMarked G I K M
keeps-both G H K I J L M first second fewer = keeps-then G H K I J M first (keeps-then H K K J L M second (keeps-still K L M fewer))
