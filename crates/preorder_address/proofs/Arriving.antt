-- The levels to a number lead to the label that stands there.
use Rattle.std.proofs.Common.{◌≡◌, ℕ, zero, suc, ◌+◌, ◌-◌, ◌<◌, ◌≤◌, List, [], ◌∷◌, ◌++◌, length, refl, ap, sym, ◌∙◌, arith, Option, Some, sum_by, subst, ◌⊎◌, inl, inr, append_assoc}
use Rattle.std.specs.Prelude.{slice_get}
use Rattle.std.proofs.lemmas.Bool.{cases_lt}
use Rattle.std.proofs.lemmas.List.Sums.{sum_by-cons, sum_by-append}
use Rattle.rule_arena.specs.Terms.{Node, kids_of}
use Rattle.rule_arena.specs.declared.key.Key.{Key}
use Rattle.rule_arena.specs.declared.label.Label.{Label}
use Rattle.rule_arena.specs.declared.label.Label.TheVariants.{Bottom, Symbol, Call, Param}
use Rattle.slt_grammar.specs.Bodies.{CallsBelow}
use Rattle.slt_grammar.specs.Keyed.{Keyed, IsKeyed, rules_of, nodes_at}
use Rattle.slt_grammar.specs.Segments.{segment, preorder, part_of, node_tour}
use Rattle.slt_grammar.specs.Tours.{Stop, stop}
use Rattle.slt_grammar.specs.declared.rules.Rule.{Rule}
use Rattle.slt_grammar.proofs.Spreads.{IsPlain}
use Rattle.slt_grammar.proofs.TourLemmas.{spread_nodes, preorder-nodes}
use Rattle.segment_counts.specs.Weights.{count, segments_sum, count_before}
use Rattle.segment_counts.proofs.Numbers.{segments_sum-param, segment-now, segment-later, segments_sum-later, segment-within}
use Rattle.preorder_address.specs.Chains.{IsAt, HasLabel, LeadsTo, BeginsAt, EndsAt, Arrives, DescentsArrive}
use Rattle.preorder_address.specs.Routes.{Found, sought, stop_weight, onward, routed, route}
use Rattle.preorder_address.specs.Numberings.{weigh_by}
use Rattle.preorder_address.specs.declared.numbering.Numbering.{Numbering}
use Rattle.preorder_address.specs.declared.numbering.Numbering.TheVariants.{Nodes, All}
use Rattle.slt_grammar.specs.declared.level.Level.{Level}
use Rattle.preorder_address.proofs.Routing.{Each, each-tour, sought-in, found-below}
use Rattle.preorder_address.proofs.Seeking.{sought-here, sought-later}
use Rattle.preorder_address.proofs.Weighing.{weight-nodes, weight-tour}

module _ (w : Label → ℕ) where
  IsAt-plain : (zero_param : w Param ≡ 0) (f : Label) → 0 < w f → (l : Label) → IsPlain l → (T before after : List Label) (i o : ℕ) → l ∷ T ≡ before ++ f ∷ after → sum_by w before ≡ segments_sum w (l ∷ T) 0 i + o → o < sum_by w (segment i (l ∷ T))
      → ((b : List Label) (j k : ℕ) → T ≡ b ++ f ∷ after → sum_by w b ≡ segments_sum w T 0 j + k → k < sum_by w (segment j T) → IsAt w (segment j T) k f) → IsAt w (segment i (l ∷ T)) o f
  IsAt-plain z f p l pl T [] after zero o e n h ih =
      let s : l ≡ f = cc in
      record { before = []; after = segment 0 T; split = segment-now w l pl T ∙ ap (λ x. x ∷ segment 0 T) s; number = omega (arith, sum_by-cons {X = Label}, n) }
  IsAt-plain z f p l pl T [] after (suc i) o e n h ih =
      let s : l ≡ f = cc in
      absurd (omega (arith, sum_by-cons {X = Label}, n, ap w s, ap (sum_by w) (segment-now w l pl T)))
  IsAt-plain z f p l pl T (b ∷ before) after zero o e n h ih =
      let s : l ≡ b = cc in
      let t : T ≡ before ++ f ∷ after = cc in
      let u = ih before 0 (sum_by w before) t (omega arith) (omega (arith, sum_by-cons {X = Label}, n, h, ap w s, ap (sum_by w) (segment-now w l pl T))) in
      record { before = l ∷ u.before; after = u.after; split = segment-now w l pl T ∙ ap (λ x. l ∷ x) u.split; number = omega (arith, sum_by-cons {X = Label}, n, u.number, ap w s) }
  IsAt-plain z f p l pl T (b ∷ before) after (suc i) o e n h ih =
      let s : l ≡ b = cc in
      let t : T ≡ before ++ f ∷ after = cc in
      let q : o < sum_by w (segment (suc i) T) = rw (← segment-later w l pl T i) h in
      rw (segment-later w l pl T i) (ih before (suc i) o t (omega (arith, sum_by-cons {X = Label}, n, ap w s, ap (sum_by w) (segment-now w l pl T), segments_sum-later w l pl T 0 i)) q)

  -- the place of a number in the segment into which it falls
  pub IsAt-segment : (zero_param : w Param ≡ 0) (f : Label) → 0 < w f → (T before after : List Label) (i o : ℕ) → T ≡ before ++ f ∷ after → sum_by w before ≡ segments_sum w T 0 i + o → o < sum_by w (segment i T) → IsAt w (segment i T) o f
  IsAt-segment z f p [] [] after i o e n h = cc
  IsAt-segment z f p [] (b ∷ before) after i o e n h = cc
  IsAt-segment z f p (Param ∷ T) before after zero o e n h = absurd (omega arith)
  IsAt-segment z f p (Param ∷ T) [] after (suc i) o e n h =
      let s : Param ≡ f = cc in
      absurd (omega (arith, sum_by-cons {X = Label}, z, ap w s))
  IsAt-segment z f p (Param ∷ T) (b ∷ before) after (suc i) o e n h =
      let s : Param ≡ b = cc in
      let t : T ≡ before ++ f ∷ after = cc in
      IsAt-segment z f p T before after i o t (omega (arith, sum_by-cons {X = Label}, n, z, ap w s, segments_sum-param w T 0 i)) h
  IsAt-segment z f p (Bottom ∷ T) before after i o e n h = IsAt-plain z f p Bottom tt T before after i o e n h (λ b j k u v. IsAt-segment z f p T b after j k u v)
  IsAt-segment z f p (Symbol s ∷ T) before after i o e n h = IsAt-plain z f p (Symbol s) tt T before after i o e n h (λ b j k u v. IsAt-segment z f p T b after j k u v)
  IsAt-segment z f p (Call q ∷ T) before after i o e n h = IsAt-plain z f p (Call q) tt T before after i o e n h (λ b j k u v. IsAt-segment z f p T b after j k u v)

-- where a number falls
pub record Falls (W : Stop Node → ℕ) (ms : List (Stop Node)) (n : ℕ) : Type 0 where
  pub found : Found
  pub sought_is : sought W ms n ≡ Some found
  pub passed : List (Stop Node)
  pub rest : List (Stop Node)
  pub split : ms ≡ passed ++ found.at ∷ rest
  pub number : n ≡ sum_by W passed + found.offset
  pub inside : found.offset < W found.at

falls-step : (W : Stop Node → ℕ) (m : Stop Node) (ms : List (Stop Node)) (n : ℕ) → n < W m + sum_by W ms → (n < W m) ⊎ (W m ≤ n) → (n - W m < sum_by W ms → Falls W ms (n - W m)) → Falls W (m ∷ ms) n
falls-step W m ms n h (inl l) ih = record { found = record { at = m; offset = n }; sought_is = sought-here W m ms n l; passed = []; rest = ms; split = refl; number = omega arith; inside = l }
falls-step W m ms n h (inr g) ih =
    let f = ih (omega arith) in
    record {
      found = f.found;
      sought_is = sought-later W m ms n g ∙ f.sought_is;
      passed = m ∷ f.passed;
      rest = f.rest;
      split = ap (λ x. m ∷ x) f.split;
      number = omega (arith, f.number, sum_by-cons W m f.passed);
      inside = f.inside;
    }

pub falls : (W : Stop Node → ℕ) (ms : List (Stop Node)) (n : ℕ) → n < sum_by W ms → Falls W ms n
falls W [] n h = absurd (omega arith)
falls W (m ∷ ms) n h = falls-step W m ms n (omega (arith, sum_by-cons W m ms)) (cases_lt n (W m)) (λ k. falls W ms (n - W m) k)

nodes-each : (ns all : List Node) → ((p : ℕ) (x : Node) → slice_get ns p ≡ Some x → (q : ℕ) × (slice_get all q ≡ Some x)) → Each (λ x. (q : ℕ) × (slice_get all q ≡ Some x)) ns
nodes-each [] all h = tt
nodes-each (x ∷ ns) all h = (h 0 x refl, nodes-each ns all (λ p y e. h (suc p) y e))

spread-node-append : (G : List Rule) (ms ns : List (Stop Node)) → spread_nodes G (ms ++ ns) ≡ spread_nodes G ms ++ spread_nodes G ns
spread-node-append G [] ns = refl
spread-node-append G (m ∷ ms) ns = ap (λ x. part_of G m.item.label m.part ++ x) (spread-node-append G ms ns) ∙ sym (append_assoc (part_of G m.item.label m.part) (spread_nodes G ms) (spread_nodes G ns))

module _ (w : Label → ℕ) (light : (l : Label) → w l ≤ 1) (none : w Param ≡ 0) (K : Keyed) (sound : IsKeyed K) where
  -- a label in what a stop stands for, in the value
  at-stop : (r : ℕ) → r < length K.rules → (passed rest : List (Stop Node)) (m : Stop Node) (o : ℕ) (f : Label) → node_tour K.rules r ≡ passed ++ m ∷ rest → IsAt w (part_of (rules_of K.rules) m.item.label m.part) o f → IsAt w (preorder (rules_of K.rules) r) (sum_by (stop_weight w K.rules) passed + o) f
  at-stop r h passed rest m o f e a =
      let H = rules_of K.rules in
      let t : preorder H r ≡ spread_nodes H (node_tour K.rules r) = preorder-nodes K sound r h in
      let u : preorder H r ≡ spread_nodes H passed ++ (part_of H m.item.label m.part ++ spread_nodes H rest) = t ∙ ap (spread_nodes H) e ∙ spread-node-append H passed (m ∷ rest) in
      let v : preorder H r ≡ (spread_nodes H passed ++ a.before) ++ f ∷ (a.after ++ spread_nodes H rest) =
      u ∙ ap (λ x. spread_nodes H passed ++ (x ++ spread_nodes H rest)) a.split ∙ simp append_assoc in
      record {
        before = spread_nodes H passed ++ a.before;
        after = a.after ++ spread_nodes H rest;
        split = v;
        number = omega (arith, sum_by-append w (spread_nodes H passed) a.before, weight-nodes w K.rules passed, a.number);
      }

  chain-more : (r : ℕ) (key : _) (q : ℕ) (ls : List Level) (f : Label) → HasLabel K.rules (record { rule = r; key = key }) (Call q) → LeadsTo K.rules q ls f → LeadsTo K.rules r (record { rule = r; key = key } ∷ ls) f
  chain-more r key q [] f h c = absurd c
  chain-more r key q (l ∷ []) f h c = (refl, subst (λ (k : ℕ). HasLabel K.rules (record { rule = r; key = key }) (Call k)) (sym c.0) h, subst (λ (k : ℕ). LeadsTo K.rules k (l ∷ []) f) (sym c.0) c)
  chain-more r key q (l ∷ k ∷ ls) f h c = (refl, subst (λ (j : ℕ). HasLabel K.rules (record { rule = r; key = key }) (Call j)) (sym c.0) h, subst (λ (j : ℕ). LeadsTo K.rules j (l ∷ k ∷ ls) f) (sym c.0) c)

  ends-more : (r n : ℕ) (key : Key) (q part first offset : ℕ) (ls : List Level) (f : Label) → BeginsAt w K.rules r key part first → n ≡ first + offset → offset < count w (rules_of K.rules) q part
      → LeadsTo K.rules q ls f → EndsAt w K.rules q (count_before w (rules_of K.rules) q part + offset) ls → EndsAt w K.rules r n (record { rule = r; key = key } ∷ ls)
  ends-more r n key q part first offset [] f b d h c e = absurd c
  ends-more r n key q part first offset (l ∷ []) f b d h c e =
      subst (λ (j : ℕ). (part first offset : ℕ) × BeginsAt w K.rules r key part first × (n ≡ first + offset) × (offset < count w (rules_of K.rules) j part) × EndsAt w K.rules j (count_before w (rules_of K.rules) j part + offset) (l ∷ [])) (sym c.0) (part, first, offset, b, d, h, e)
  ends-more r n key q part first offset (l ∷ k ∷ ls) f b d h c e =
      subst (λ (j : ℕ). (part first offset : ℕ) × BeginsAt w K.rules r key part first × (n ≡ first + offset) × (offset < count w (rules_of K.rules) j part) × EndsAt w K.rules j (count_before w (rules_of K.rules) j part + offset) (l ∷ k ∷ ls)) (sym c.0) (part, first, offset, b, d, h, e)

  at-own : (most r n : ℕ) → r < length K.rules → (passed rest : List (Stop Node)) (x : Node) (o : ℕ) (l : Label) → x.label ≡ l → node_tour K.rules r ≡ passed ++ stop x 0 ∷ rest → n ≡ sum_by (stop_weight w K.rules) passed + o → o < w l
      → (p : ℕ) → slice_get (nodes_at K.rules r) p ≡ Some x → part_of (rules_of K.rules) x.label 0 ≡ l ∷ [] → Arrives w K.rules r n (record { rule = r; key = x.key } ∷ [])
  at-own most r n h passed rest x o l e t d b p y own =
      let one = light l in
      let z : o ≡ 0 = omega arith in
      let a : IsAt w (part_of (rules_of K.rules) x.label 0) o l = record { before = []; after = []; split = own; number = sym z } in
      let i = at-stop r h passed rest (stop x 0) o l t a in
      record {
        label = l;
        chain = (refl, record { place = p; node = x; there = y; key = refl; label = e });
        ends = record { passed = passed; rest = rest; node = x; split = t; key_is = refl; number = omega (arith, d, z) };
        counted = omega arith;
        there = subst (λ (j : ℕ). IsAt w (preorder (rules_of K.rules) r) j l) (sym d) i;
      }

  -- at the found stop
  at-found : (most r n : ℕ) → r < length K.rules → (passed rest : List (Stop Node)) (x : Node) (i o : ℕ) (l : Label) → x.label ≡ l → node_tour K.rules r ≡ passed ++ stop x i ∷ rest → n ≡ sum_by (stop_weight w K.rules) passed + o → o < sum_by w (part_of (rules_of K.rules) l i)
      → (p : ℕ) → slice_get (nodes_at K.rules r) p ≡ Some x → CallsBelow r (l ∷ [])
      → ((q k : ℕ) → q < r → k < sum_by w (preorder (rules_of K.rules) q) → Arrives w K.rules q k (route w K.rules most q k))
      → Arrives w K.rules r n (record { rule = r; key = x.key } ∷ onward l (λ q. route w K.rules most q (count_before w (rules_of K.rules) q i + o)))
  at-found most r n h passed rest x (suc i) o Bottom e t d b p y c ih = absurd (omega arith)
  at-found most r n h passed rest x (suc i) o (Symbol s) e t d b p y c ih = absurd (omega arith)
  at-found most r n h passed rest x i o Param e t d b p y c ih = absurd (omega (arith, none, sum_by-cons w Param []))
  at-found most r n h passed rest x zero o Bottom e t d b p y c ih = at-own most r n h passed rest x o Bottom e t d (omega (arith, sum_by-cons w Bottom [])) p y (ap (λ l. part_of (rules_of K.rules) l 0) e)
  at-found most r n h passed rest x zero o (Symbol s) e t d b p y c ih = at-own most r n h passed rest x o (Symbol s) e t d (omega (arith, sum_by-cons w (Symbol s) [])) p y (ap (λ l. part_of (rules_of K.rules) l 0) e)
  at-found most r n h passed rest x i o (Call q) e t d b p y c ih =
      let H = rules_of K.rules in
      let k : ℕ = count_before w H q i + o in
      let s = segment-within w (preorder H q) i in
      let v = ih q k c.0 (omega arith) in
      let a = IsAt-segment w none v.label v.counted (preorder H q) v.there.before v.there.after i o v.there.split v.there.number b in
      let a' : IsAt w (part_of H x.label i) o v.label = subst (λ (l : Label). IsAt w (part_of H l i) o v.label) (sym e) a in
      let z = at-stop r h passed rest (stop x i) o v.label t a' in
      record {
        label = v.label;
        chain = chain-more r x.key q (route w K.rules most q k) v.label (record { place = p; node = x; there = y; key = refl; label = e }) v.chain;
        ends = ends-more r n x.key q i (sum_by (stop_weight w K.rules) passed) o (route w K.rules most q k) v.label (record { passed = passed; rest = rest; node = x; split = t; key_is = refl; number = refl }) d b v.chain v.ends;
        counted = v.counted;
        there = subst (λ (j : ℕ). IsAt w (preorder H r) j v.label) (sym d) z;
      }

  -- the levels lead to the number
  pub arrives : (most r n : ℕ) → r < most → r < length K.rules → n < sum_by w (preorder (rules_of K.rules) r) → Arrives w K.rules r n (route w K.rules most r n)
  arrives zero r n a h b = absurd (omega arith)
  arrives (suc most) r n a h b =
      let t = weight-tour w K sound r h in
      let f = falls (stop_weight w K.rules) (node_tour K.rules r) n (omega (arith, t)) in
      let x = f.found.at.item in
      let y = sought-in (λ m. (q : ℕ) × (slice_get (nodes_at K.rules r) q ≡ Some m.item)) (stop_weight w K.rules) (node_tour K.rules r) n f.found
      (each-tour (λ (z : Node). (q : ℕ) × (slice_get (nodes_at K.rules r) q ≡ Some z)) kids_of ([] ∷ []) (nodes_at K.rules r) (nodes-each (nodes_at K.rules r) (nodes_at K.rules r) (λ p z e. (p, e))) (tt, tt)) f.sought_is in
      let c = found-below w K.rules sound.grammar r n f.found h f.sought_is in
      let v = at-found most r n h f.passed f.rest x f.found.at.part f.found.offset x.label refl f.split f.number f.inside y.0 y.1 c (λ q k l e. arrives most q k (omega arith) (omega arith) e) in
      subst (λ (o : Option Found). Arrives w K.rules r n (routed r o (λ q i k. route w K.rules most q (count_before w (rules_of K.rules) q i + k)))) (sym f.sought_is) v

pub light-weigh : (by : Numbering) (l : Label) → weigh_by by l ≤ 1
light-weigh Nodes Bottom = omega arith
light-weigh Nodes (Symbol f) = omega arith
light-weigh Nodes (Call q) = omega arith
light-weigh Nodes Param = omega arith
light-weigh All Bottom = omega arith
light-weigh All (Symbol f) = omega arith
light-weigh All (Call q) = omega arith
light-weigh All Param = omega arith

pub none-weigh : (by : Numbering) → weigh_by by Param ≡ 0
none-weigh Nodes = refl
none-weigh All = refl

pub descents-arrive : DescentsArrive
descents-arrive by g r n k h b = arrives (weigh_by by) (light-weigh by) (none-weigh by) g k (suc r) r n (omega arith) h b
