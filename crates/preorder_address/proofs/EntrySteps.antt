-- An entry tells a parent: its node is the parent, or the parent is in the rule that the node calls.
use Rattle.std.proofs.Common.{◌≡◌, ℕ, zero, suc, ◌+◌, ◌<◌, List, [], ◌∷◌, ◌++◌, length, get_or, refl, ap, sym, ◌∙◌, arith, Option, None, Some, subst}
use Rattle.rule_arena.specs.Preorder.{AreTerms}
use Rattle.rule_arena.specs.Terms.{Node}
use Rattle.rule_arena.specs.declared.label.Label.{Label}
use Rattle.rule_arena.specs.declared.label.Label.TheVariants.{Bottom, Symbol, Call, Param}
use Rattle.slt_grammar.specs.Algebras.{ranks_of}
use Rattle.slt_grammar.specs.Bodies.{CallsBelow, arity, params}
use Rattle.slt_grammar.specs.Grammars.{value_at}
use Rattle.slt_grammar.specs.Keyed.{Keyed, IsKeyed, key_at, nodes_at, rules_of}
use Rattle.slt_grammar.specs.Segments.{preorder}
use Rattle.slt_grammar.specs.declared.rules.Rule.{Rule}
use Rattle.slt_grammar.proofs.KeyedLemmas.{key_at-within}
use Rattle.slt_grammar.proofs.Spreads.{IsPlain}
use Rattle.slt_grammar.proofs.StopLemmas.{call-below}
use Rattle.slt_grammar.proofs.TourWalking.{node-key}
use Rattle.segment_counts.specs.Weights.{node_weight}
use Rattle.preorder_address.specs.Parents.{EntryTells, TellsParent, first_terms, kid_sizes, parent_behind, parent_of_kid, parents_behind, until}
use Rattle.preorder_address.specs.Sites.{laden, labels_before}
use Rattle.preorder_address.specs.declared.parent.Edge.{Edge}
use Rattle.preorder_address.specs.declared.parent.Entry.{Entry}
use Rattle.preorder_address.specs.declared.parent.Frame.{Frame}
use Rattle.preorder_address.proofs.Lading.{label_arity, laden-alike, listed-term}
use Rattle.preorder_address.proofs.Loads.{shape-params}
use Rattle.preorder_address.proofs.ParentLists.{behind-alike, behind-within, length-same, until-split}
use Rattle.preorder_address.proofs.ParentRises.{first-of, plain-kids}
use Rattle.preorder_address.proofs.Siting.{call-within, is, kid-args}

module _ (g : Keyed) (K : IsKeyed g) (limit : ℕ) (entry : Entry) (up : Option ℕ) (t : EntryTells g.rules limit entry up) where
  abbrev H : List Rule
  H = rules_of g.rules

  abbrev x : Node
  x = t.node

  pub entry-rule : entry.rule < length g.rules
  entry-rule = (key_at-within g.rules entry.rule t.place x.key (node-key (nodes_at g.rules entry.rule) t.place x t.is_entry.there)).0

  pub entry-plain : IsPlain x.label
  entry-plain = plain-kids (ranks_of H) x.label x.kids entry.edge.kid (is g K node_weight refl entry.rule [] t.place x t.is_entry.there).kids t.is_entry.kid

  pub entry-key : key_at g.rules entry.rule t.place ≡ Some entry.edge.key
  entry-key = node-key (nodes_at g.rules entry.rule) t.place x t.is_entry.there ∙ ap Some t.is_entry.key

  -- a symbol is the parent
  pub symbol-is : (k : ℕ) → k ≡ entry.frame.before + laden node_weight entry.frame.args (labels_before g.rules entry.rule t.place) → ((q : ℕ) → entry.edge.label ≡ Call q → ⊥) → up ≡ Some k
  symbol-is k e n =
      t.parent
      ∙ by_label entry.edge.label refl entry.edge.kid t.is_entry.enters (kid_sizes g.rules entry.frame.args entry.rule t.place x) (entry.frame.before + laden node_weight entry.frame.args (labels_before g.rules entry.rule t.place))
      ∙ ap Some (sym e)
    where
      by_label : (l : Label) → entry.edge.label ≡ l → (i : ℕ) → 0 < first_terms H l i → (us : List ℕ) (j : ℕ) → parent_of_kid H us j l i ≡ Some j
      by_label (Symbol f) d zero h us j = refl
      by_label (Symbol f) d (suc zero) h us j = absurd (omega arith)
      by_label (Symbol f) d (suc (suc i)) h us j = absurd (omega arith)
      by_label (Call q) d i h us j = absurd (n q d)
      by_label Bottom d i h us j = absurd (omega arith)
      by_label Param d zero h us j = absurd (omega arith)
      by_label Param d (suc i) h us j = absurd (omega arith)

  module _ (q : ℕ) (is_call : entry.edge.label ≡ Call q) where
    node-call : x.label ≡ Call q
    node-call = t.is_entry.label ∙ is_call

    pub call-earlier : q < entry.rule
    call-earlier = (subst (λ (l : Label). CallsBelow entry.rule (l ∷ [])) node-call (call-below g K entry.rule t.place x entry-rule t.is_entry.there)).0

    pub kid-there : entry.edge.kid < params (preorder H q)
    kid-there =
        let i = is g K node_weight refl entry.rule [] t.place x t.is_entry.there in
        omega (arith, t.is_entry.kid, i.kids, ap (arity (ranks_of H)) node-call, shape-params H K.grammar (Call q) tt (subst (λ (l : Label). CallsBelow (length H) (l ∷ [])) node-call i.calls))

    opens : 0 < first_terms H (Call q) entry.edge.kid
    opens = subst (λ (l : Label). 0 < first_terms H l entry.edge.kid) is_call t.is_entry.enters

    -- what is open before the parameter is opened in the called rule's value
    open-within : (us : List ℕ) (k : ℕ) (o : Option ℕ) → parent_behind us k o (until (preorder H q) entry.edge.kid) ≡ get_or (parents_behind us k [] (until (preorder H q) entry.edge.kid)) 0 None
    open-within us k o =
        let v = until-split entry.edge.kid (preorder H q) kid-there in
        let one : AreTerms label_arity 1 (until (preorder H q) entry.edge.kid ++ Param ∷ v.0) = subst (λ (ls : List Label). AreTerms label_arity 1 ls) v.1 (listed-term 0 (value_at H q) [] tt) in
        ap (λ ps. get_or ps 0 None) (behind-within Param v.0 0 us k [] (o ∷ []) (until (preorder H q) entry.edge.kid) refl one)
        ∙ first-of (parents_behind us k [] (until (preorder H q) entry.edge.kid)) (o ∷ []) (omega (arith, opens, length-same us [] k 0 [] [] (until (preorder H q) entry.edge.kid) refl))

    module _ (p : ℕ) (before : labels_before g.rules q p ≡ until (preorder H q) entry.edge.kid) where
      pub never-none : TellsParent g.rules q p None → ⊥
      never-none n =
          let a : None ≡ get_or (parents_behind [] 0 [] (until (preorder H q) entry.edge.kid)) 0 None = sym (n [] 0 None) ∙ ap (parent_behind [] 0 None) before ∙ open-within [] 0 None in
          let b : Some 0 ≡ get_or (parents_behind [] 0 [] (until (preorder H q) entry.edge.kid)) 0 None = sym (n [] 0 (Some 0)) ∙ ap (parent_behind [] 0 (Some 0)) before ∙ open-within [] 0 (Some 0) in
          let c : None ≡ Some 0 = a ∙ sym b in
          cc

      pub entry-next : (edge : Edge) (frame : Frame) → TellsParent g.rules q p (Some edge) → frame.before ≡ entry.frame.before + laden node_weight entry.frame.args (labels_before g.rules entry.rule t.place)
          → ((j : ℕ) → get_or frame.args j 0 ≡ get_or (kid_sizes g.rules entry.frame.args entry.rule t.place x) j 0) → EntryTells g.rules limit (record { rule = q; edge = edge; frame = frame }) up
      entry-next edge frame n b a =
          let us = kid_sizes g.rules entry.frame.args entry.rule t.place x in
          let T = preorder H q in
          let k : ℕ = entry.frame.before + laden node_weight entry.frame.args (labels_before g.rules entry.rule t.place) in
          let w = call-within g K node_weight refl entry.rule entry.frame.args t.place x t.is_entry.there q node-call in
          let v = kid-args g K node_weight refl entry.rule entry.frame.args t.place x t.is_entry.there in
          record {
            place = n.0;
            node = n.1;
            is_entry = n.2;
            small = omega (arith, b, t.small, w, ap (λ vs. laden node_weight vs T) v, laden-alike node_weight frame.args us a T);
            parent = t.parent ∙ ap (λ l. parent_of_kid H us k l entry.edge.kid) is_call ∙ ap (λ ps. get_or ps 0 None) (sym (behind-alike frame.args us a k [] (until T entry.edge.kid)))
                ∙ ap (λ j. get_or (parents_behind frame.args j [] (until T entry.edge.kid)) 0 None) (sym b) ∙ sym (open-within frame.args frame.before None) ∙ ap (parent_behind frame.args frame.before None) (sym before)
                ∙ n.3 frame.args frame.before None;
          }
