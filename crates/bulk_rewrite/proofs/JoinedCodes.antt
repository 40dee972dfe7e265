-- The code of a document without the nodes that are hit, where texts that meet are one.
use Rattle.std.proofs.Common.{◌≡◌, ℕ, suc, ◌+◌, ◌&&◌, List, [], ◌∷◌, Bool, true, false, Some, None, slice_get, if◌then◌else◌, refl, sym, arith, subst}
use Rattle.plain_tree.specs.declared.kind.Kind.{Kind}
use Rattle.plain_tree.specs.declared.kind.Kind.TheVariants.{Document, Element, Attribute, Text, Comment, Instruction}
use Rattle.plain_tree.specs.Tree.{node, Trees, none, more, node_count_all}
use Rattle.plain_tree.specs.Joined.{behind_text, join_front}
use Rattle.slt_grammar.specs.Algebras.{Algebra}
use Rattle.slt_grammar.specs.Automata.{Downward, nodes_in}
use Rattle.slt_grammar.specs.Coding.{Codes}
use Rattle.slt_grammar.specs.Terms.{Term, Leaf, Node, up}
use Rattle.slt_grammar.specs.declared.automata.Fell.{Fell}
use Rattle.bulk_rewrite.specs.Rewriting.{rewritten, placed}
use Rattle.bulk_rewrite.specs.Numbered.{AreHits}
use Rattle.bulk_rewrite.specs.Joining.{Before, NoText, JustText, GapText, is_gap, is_text, Marked, Lost, At, gives_way, before_rest, joining_run, joining, Rests, begins_met, joined_rests, kept_rests, behind_met, behind_mark, gap_of}
use Rattle.bulk_rewrite.proofs.Numbered.{hits-here, hits-below, hits-after}
use Rattle.bulk_rewrite.proofs.Trees.{count-code}

-- a text in front, that meets the next one or not
behind-front : (b : Bool) (name value : List ℕ) (kids ts : Trees) → behind_text (if b then join_front (node Text name value kids) ts else more (node Text name value kids) ts) ≡ (if b then behind_text ts else ts)
behind-front true name value kids ts = refl
behind-front false name value kids ts = refl

module _ (names : List (Kind × List ℕ)) where
  front-code : (b : Bool) (f : ℕ) (below behind : Term) (name value : List ℕ) (kids ts : Trees) → slice_get names f ≡ Some (Text, name) → Codes names kids below → Codes names (if b then behind_text ts else ts) behind
      → Codes names (if b then join_front (node Text name value kids) ts else more (node Text name value kids) ts) (Node f below behind)
  front-code true f below behind name value kids ts at first rest = (f, below, behind, at, first, rest, refl)
  front-code false f below behind name value kids ts at first rest = (f, below, behind, at, first, rest, refl)

  -- a kept node in front of what is kept behind it, whatever stands before
  more-code : (m : Before) (gap : Bool) (f : ℕ) (below behind : Term) (kind : Kind) (name value : List ℕ) (kids : Trees) (ts : Rests) → slice_get names f ≡ Some (kind, name) → is_text kind && is_gap m ≡ false
      → Codes names kids below → Codes names (behind_mark (if is_text kind then JustText else NoText) ts) behind → Codes names (behind_mark m ((gap_of m gap, node kind name value kids) ∷ ts)) (Node f below behind)
  more-code NoText gap f below behind Text name value kids ts at free first rest = front-code (begins_met ts) f below behind name value kids (joined_rests ts) at first rest
  more-code JustText gap f below behind Text name value kids ts at free first rest = front-code (begins_met ts) f below behind name value kids (joined_rests ts) at first rest
  more-code GapText gap f below behind Text name value kids ts at free first rest = absurd (cc)
  more-code NoText gap f below behind Document name value kids ts at free first rest = (f, below, behind, at, first, rest, refl)
  more-code JustText gap f below behind Document name value kids ts at free first rest = (f, below, behind, at, first, rest, refl)
  more-code GapText gap f below behind Document name value kids ts at free first rest = (f, below, behind, at, first, rest, refl)
  more-code NoText gap f below behind Element name value kids ts at free first rest = (f, below, behind, at, first, rest, refl)
  more-code JustText gap f below behind Element name value kids ts at free first rest = (f, below, behind, at, first, rest, refl)
  more-code GapText gap f below behind Element name value kids ts at free first rest = (f, below, behind, at, first, rest, refl)
  more-code NoText gap f below behind Attribute name value kids ts at free first rest = (f, below, behind, at, first, rest, refl)
  more-code JustText gap f below behind Attribute name value kids ts at free first rest = (f, below, behind, at, first, rest, refl)
  more-code GapText gap f below behind Attribute name value kids ts at free first rest = (f, below, behind, at, first, rest, refl)
  more-code NoText gap f below behind Comment name value kids ts at free first rest = (f, below, behind, at, first, rest, refl)
  more-code JustText gap f below behind Comment name value kids ts at free first rest = (f, below, behind, at, first, rest, refl)
  more-code GapText gap f below behind Comment name value kids ts at free first rest = (f, below, behind, at, first, rest, refl)
  more-code NoText gap f below behind Instruction name value kids ts at free first rest = (f, below, behind, at, first, rest, refl)
  more-code JustText gap f below behind Instruction name value kids ts at free first rest = (f, below, behind, at, first, rest, refl)
  more-code GapText gap f below behind Instruction name value kids ts at free first rest = (f, below, behind, at, first, rest, refl)

  -- a text that meets the text before it is no node of its own
  met-code : (behind : Term) (name value : List ℕ) (kids : Trees) (ts : Rests) → Codes names (behind_met ts) behind → Codes names (behind_mark GapText ((true, node Text name value kids) ∷ ts)) behind
  met-code behind name value kids ts rest = subst (λ x. Codes names x behind) (sym (behind-front (begins_met ts) name value kids (joined_rests ts))) rest

  none-code : (m : Before) → Codes names (behind_mark m []) Leaf
  none-code NoText = refl
  none-code JustText = refl
  none-code GapText = refl

  -- what is left of a node and what is behind it
  joined-node : {D : Type 0} (hit : Bool) (m : Before) (gap : Bool) (f : ℕ) (l : D) (below : Marked D → Term) (behind : Before → Term) (kind : Kind) (name value : List ℕ) (kids : Trees) (K : Bool → Rests) → slice_get names f ≡ Some (kind, name)
      → Codes names kids (below (At l NoText)) → ((m' : Before) (g : Bool) → Codes names (behind_mark m' (K (gap_of m' g))) (behind m'))
      → Codes names (behind_mark m (if hit then K true else (gap_of m gap, node kind name value kids) ∷ K false)) (placed (if gives_way hit (is_text kind) m then None else Some f) (below (if gives_way hit (is_text kind) m then Lost else At l NoText)) (behind (before_rest hit (is_text kind) m)))
  joined-node true NoText gap f l below behind kind name value kids K at first rest = rest NoText true
  joined-node true JustText gap f l below behind kind name value kids K at first rest = rest GapText true
  joined-node true GapText gap f l below behind kind name value kids K at first rest = rest GapText true
  joined-node false NoText gap f l below behind Text name value kids K at first rest = more-code NoText gap f (below (At l NoText)) (behind JustText) Text name value kids (K false) at refl first (rest JustText false)
  joined-node false JustText gap f l below behind Text name value kids K at first rest = more-code JustText gap f (below (At l NoText)) (behind JustText) Text name value kids (K false) at refl first (rest JustText false)
  joined-node false GapText gap f l below behind Text name value kids K at first rest = met-code (behind JustText) name value kids (K false) (rest JustText false)
  joined-node false m gap f l below behind Document name value kids K at first rest = more-code m gap f (below (At l NoText)) (behind NoText) Document name value kids (K false) at refl first (rest NoText false)
  joined-node false m gap f l below behind Element name value kids K at first rest = more-code m gap f (below (At l NoText)) (behind NoText) Element name value kids (K false) at refl first (rest NoText false)
  joined-node false m gap f l below behind Attribute name value kids K at first rest = more-code m gap f (below (At l NoText)) (behind NoText) Attribute name value kids (K false) at refl first (rest NoText false)
  joined-node false m gap f l below behind Comment name value kids K at first rest = more-code m gap f (below (At l NoText)) (behind NoText) Comment name value kids (K false) at refl first (rest NoText false)
  joined-node false m gap f l below behind Instruction name value kids K at first rest = more-code m gap f (below (At l NoText)) (behind NoText) Instruction name value kids (K false) at refl first (rest NoText false)

module _ {S D : Type 0} (A : Algebra S) (W : Downward S D) (states : List S) (names : List (Kind × List ℕ)) (taken texts : ℕ → Bool) (known : (f : ℕ) (kind : Kind) (name : List ℕ) → slice_get names f ≡ Some (kind, name) → texts f ≡ is_text kind) where
  abbrev left : Term → Marked D → Term
  left t o = rewritten A (joining_run W texts) (joining texts) t states o

  -- the code of what is left of trees, where the nodes that are hit are taken out and texts that meet are one
  pub codes-joined : (ts : Trees) (term : Term) (n : ℕ) (d : D) (m : Before) (gap : Bool) → Codes names ts term → AreHits A W taken n term states d → Codes names (behind_mark m (kept_rests taken n (gap_of m gap) ts)) (left term (At d m))
  codes-joined none term n d m gap c h = rw c (none-code names m)
  codes-joined (more (node kind name value kids) ts) term n d m gap (f, below, behind, at, cb, cr, e) h =
      let s : Fell D = W.step f d (up A below states) (up A behind states) in
      let h' : AreHits A W taken n (Node f below behind) states d = rw e at h in
      let here : taken n ≡ s.hit = hits-here A W states taken n f below behind d h' in
      let next : ℕ = n + (node_count_all kids + 1) in
      let z : next ≡ suc n + nodes_in below = (let k = count-code names kids below cb in omega arith) in
      let K : Bool → Rests = λ g. kept_rests taken next g ts in
      let rest : (m' : Before) (g : Bool) → Codes names (behind_mark m' (K (gap_of m' g))) (left behind (At s.right m')) = λ m' g. rw z (codes-joined ts behind (suc n + nodes_in below) s.right m' g cr (hits-after A W states taken n f below behind d h')) in
      let first : Codes names (joined_rests (kept_rests taken (suc n) false kids)) (left below (At s.left NoText)) = codes-joined kids below (suc n) s.left NoText false cb (hits-below A W states taken n f below behind d h') in
      let found : Codes names (behind_mark m (kept_rests taken n (gap_of m gap) (more (node kind name value kids) ts))) (left (Node f below behind) (At d m)) =
      rw (here, known f kind name at) (joined-node names s.hit m gap f s.left (λ o. left below o) (λ b. left behind (At s.right b)) kind name value (joined_rests (kept_rests taken (suc n) false kids)) K at first rest) in
      subst (λ t. Codes names (behind_mark m (kept_rests taken n (gap_of m gap) (more (node kind name value kids) ts))) (left t (At d m))) (sym e) found
