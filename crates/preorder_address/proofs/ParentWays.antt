-- The parent of a node along the way to it.
use Rattle.std.proofs.Common.{◌≡◌, ℕ, ◌+◌, ◌-◌, ◌*◌, ◌<◌, ◌≤◌, List, [], ◌∷◌, length, get_or, refl, ap, sym, ◌∙◌, arith, Option, None, Some, sum_by, subst, append-nil}
use Rattle.rule_arena.specs.declared.label.Label.{Label}
use Rattle.rule_arena.specs.declared.label.Label.TheVariants.{Call}
use Rattle.slt_grammar.specs.Grammars.{whole}
use Rattle.slt_grammar.specs.Keyed.{Keyed, IsKeyed, rules_of}
use Rattle.slt_grammar.specs.Segments.{preorder}
use Rattle.slt_grammar.specs.declared.level.Level.{Level}
use Rattle.slt_grammar.specs.declared.rules.Rule.{Rule}
use Rattle.segment_counts.specs.Weights.{count_before, node_weight}
use Rattle.preorder_address.specs.Chains.{EndsAt, LeadsTo, LeadsToNumber}
use Rattle.preorder_address.specs.Descents.{IsInside, levels_of, steps_of}
use Rattle.preorder_address.specs.Parents.{EntryTells, Tells, TellsParent, kid_sizes, parent_among, parent_behind}
use Rattle.preorder_address.specs.Sites.{laden, labels_before}
use Rattle.preorder_address.specs.Told.{level_nodes}
use Rattle.preorder_address.specs.declared.descent.Descent.{Descent}
use Rattle.preorder_address.specs.declared.numbering.Numbering.TheVariants.{Nodes}
use Rattle.preorder_address.specs.declared.parent.Edge.{Edge}
use Rattle.preorder_address.specs.declared.parent.Entry.{Entry}
use Rattle.preorder_address.specs.declared.parent.Frame.{Frame}
use Rattle.preorder_address.proofs.KidWeighing.{no_weights}
use Rattle.preorder_address.proofs.Lading.{Alike}
use Rattle.preorder_address.proofs.Locating.{chain-nodes, nodes-few}
use Rattle.preorder_address.proofs.Naming.{symbol-of}
use Rattle.preorder_address.proofs.ParentLists.{among-alike}
use Rattle.preorder_address.proofs.ParentSiting.{among-call, among-symbol}
use Rattle.preorder_address.proofs.Sited.{LevelNode, SitedBy, level-node, level-part, level-within, same-label, siting-start, zeros-none}
use Rattle.preorder_address.proofs.Siting.{kid-args, kid_args}

module _ (g : Keyed) (n : ℕ) where
  -- the nodes of the grammar's value
  abbrev pub limit : ℕ
  limit = sum_by node_weight (preorder (rules_of g.rules) (length g.rules - 1))

  -- the parent of node n of the grammar's value
  abbrev pub wanted : Option ℕ
  wanted = parent_among [] 0 (None ∷ []) (preorder (rules_of g.rules) (length g.rules - 1)) n

  -- the levels lead on to the node, in a value that stands below this parent, or it was the last one and this is its parent
  abbrev pub ParentedBy : List Level → ℕ → List ℕ → Option ℕ → Type 0
  ParentedBy [] before args up = up ≡ wanted
  ParentedBy (l ∷ ls) before args up =
      (m : ℕ) × (f : Label) × (0 < node_weight f) × LeadsTo g.rules l.rule (l ∷ ls) f × EndsAt node_weight g.rules l.rule m (l ∷ ls) × (parent_among args before (up ∷ []) (preorder (rules_of g.rules) l.rule) m ≡ wanted)

  pub record Parenting (d : Descent) (before : ℕ) (args : List ℕ) (entry : Option Entry) (first steps : ℕ) : Type 0 where
    pub inside : IsInside g.rules d
    pub sited : SitedBy g node_weight n (levels_of g.rules d) before args
    pub up : Option ℕ
    pub tells : Tells g.rules limit entry up
    pub parented : ParentedBy (levels_of g.rules d) before args up
    pub few : steps + steps_of g.rules d + 8 * level_nodes g.rules (levels_of g.rules d) ≤ first + 12 * whole (rules_of g.rules)

module _ (g : Keyed) (K : IsKeyed g) (n : ℕ) where
  abbrev H : List Rule
  H = rules_of g.rules

  pub parenting-start : (d : Descent) (steps : ℕ) → LeadsToNumber Nodes g.rules n d → Parenting g n d 0 no_weights None steps steps
  parenting-start d steps l = record {
    inside = l.inside;
    sited = (siting-start g K node_weight refl n d steps l).sited;
    up = None;
    tells = refl;
    parented = by_levels (levels_of g.rules d) l.arrives.chain l.arrives.ends;
    few = omega (arith, l.few, chain-nodes g K (length g.rules - 1) (levels_of g.rules d) l.arrives.label l.arrives.chain, nodes-few g.rules (length g.rules - 1));
  }
    where
      first-rule : (k : Level) (ls : List Level) → LeadsTo g.rules (length g.rules - 1) (k ∷ ls) l.arrives.label → k.rule ≡ length g.rules - 1
      first-rule k [] c = c.0
      first-rule k (j ∷ ls) c = c.0

      by_levels : (ls : List Level) → LeadsTo g.rules (length g.rules - 1) ls l.arrives.label → EndsAt node_weight g.rules (length g.rules - 1) n ls → ParentedBy g n ls 0 no_weights None
      by_levels [] c e = absurd c
      by_levels (k ∷ ls) c e =
          let z = first-rule k ls c in (
            n,
            l.arrives.label,
            l.arrives.counted,
            subst (λ (r : ℕ). LeadsTo g.rules r (k ∷ ls) l.arrives.label) (sym z) c,
            subst (λ (r : ℕ). EndsAt node_weight g.rules r n (k ∷ ls)) (sym z) e,
            ap (λ r. parent_among no_weights 0 (None ∷ []) (preorder H r) n) z ∙ among-alike no_weights [] zeros-none 0 (None ∷ []) (preorder H (length g.rules - 1)) n,
          )

  module _ (l : Level) (ls : List Level) (before : ℕ) (args : List ℕ) (s : SitedBy g node_weight n (l ∷ ls) before args) where
    abbrev pub here : LevelNode g K node_weight refl n l
    here = level-node g K node_weight refl n l ls before args s

    -- the parent of the level's node
    abbrev pub up_here : Option ℕ → Option ℕ
    up_here up = parent_behind args before up (labels_before g.rules l.rule here.place)

    -- what tells it
    pub tells-next : (entry result : Option Entry) (edge : Option Edge) (up : Option ℕ) → TellsParent g.rules l.rule here.place edge → Tells g.rules (limit g n) entry up → (frame : Frame) → frame ≡ record { before = before; args = args }
        → ((e : Edge) → edge ≡ Some e → result ≡ Some (record { rule = l.rule; edge = e; frame = frame })) → (edge ≡ None → result ≡ entry) → Tells g.rules (limit g n) result (up_here up)
    tells-next entry result None up t w frame d a b = subst (λ (o : Option Entry). Tells g.rules (limit g n) o (up_here up)) (sym (b refl)) (subst (λ (o : Option ℕ). Tells g.rules (limit g n) entry o) (sym (t args before up)) w)
    tells-next entry result (Some e) up t w frame d a b =
        let r : EntryTells g.rules (limit g n) (record { rule = l.rule; edge = e; frame = record { before = before; args = args } }) (up_here up) = record {
          place = t.0;
          node = t.1;
          is_entry = t.2;
          small = level-within g K node_weight refl n l ls before args s;
          parent = t.3 args before up;
        } in
        subst (λ (o : Option Entry). Tells g.rules (limit g n) o (up_here up)) (sym (a e refl ∙ ap (λ (f : Frame). Some (record { rule = l.rule; edge = e; frame = f })) d)) r

    -- the way goes past the level
    pub parented-next : (up : Option ℕ) → ParentedBy g n (l ∷ ls) before args up → (before' : ℕ) (next : List ℕ) → before' ≡ before + laden node_weight args (labels_before g.rules l.rule here.place)
        → ((j : ℕ) → get_or next j 0 ≡ get_or (kid_sizes g.rules args l.rule here.place here.node) j 0) → ParentedBy g n ls before' next (up_here up)
    parented-next up w before' next b a = by_levels ls w.3 w.4
      where
        alike : Alike next (kid_args g K node_weight refl l.rule args here.place here.node here.there)
        alike j = a j ∙ ap (λ us. get_or us j 0) (sym (kid-args g K node_weight refl l.rule args here.place here.node here.there))

        by_levels : (ls' : List Level) → LeadsTo g.rules l.rule (l ∷ ls') w.1 → EndsAt node_weight g.rules l.rule w.0 (l ∷ ls') → ParentedBy g n ls' before' next (up_here up)
        by_levels [] c e =
            let f = symbol-of w.1 w.2 in
            let y = same-label g K node_weight refl n l ls before args s w.1 c.1 ∙ f.1 in
            let v = level-part g K node_weight refl n l ls before args s 0 w.0 e in
            let m : w.0 ≡ sum_by node_weight (labels_before g.rules l.rule here.place) = v.is_first ∙ ap (sum_by node_weight) (v.placed ∙ append-nil (labels_before g.rules l.rule here.place)) in
            sym (among-symbol g K l.rule args here.place here.node here.there before up f.0 y w.0 m) ∙ w.5
        by_levels (k ∷ ks) c e =
            let y = same-label g K node_weight refl n l ls before args s (Call k.rule) c.1 in
            let v = level-part g K node_weight refl n l ls before args s e.0 e.1 e.3 in
            let b' = among-call g K l.rule args here.place here.node here.there before up k.rule y v.passed e.0 e.1 e.2 w.0 v.placed v.is_first e.4 e.5 in
            let m : ℕ = count_before node_weight H k.rule e.0 + e.2 in (
              m,
              w.1,
              w.2,
              c.2,
              e.6,
              among-alike next (kid_args g K node_weight refl l.rule args here.place here.node here.there) alike before' (up_here up ∷ []) (preorder H k.rule) m
                  ∙ ap (λ j. parent_among (kid_args g K node_weight refl l.rule args here.place here.node here.there) j (up_here up ∷ []) (preorder H k.rule) m) b ∙ sym b' ∙ w.5,
            )
