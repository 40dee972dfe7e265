-- The texts of a document without the nodes that are hit, where texts that meet are one.
use Rattle.std.proofs.Common.{◌≡◌, ℕ, suc, ◌+◌, ◌&&◌, List, [], ◌∷◌, ◌++◌, length, Bool, true, false, Some, slice_get, if◌then◌else◌, refl, sym, ap, ◌∙◌, arith, append-nil, length-append}
use Rattle.plain_tree.specs.declared.kind.Kind.{Kind}
use Rattle.plain_tree.specs.declared.kind.Kind.TheVariants.{Document, Element, Attribute, Text, Comment, Instruction}
use Rattle.plain_tree.specs.Tree.{node, Trees, none, more, node_count_all}
use Rattle.plain_tree.specs.Joined.{front_text, behind_text, join_front}
use Rattle.plain_tree.specs.Lawful.{AreKids, AreLawfulTrees}
use Rattle.plain_tree.specs.Numbers.{has_value, texts_all}
use Rattle.slt_grammar.specs.Algebras.{Algebra}
use Rattle.slt_grammar.specs.Automata.{Downward, nodes_in}
use Rattle.slt_grammar.specs.Coding.{Codes}
use Rattle.slt_grammar.specs.Terms.{Term, Leaf, Node, Hole, up}
use Rattle.slt_grammar.specs.declared.automata.Fell.{Fell}
use Rattle.slt_grammar.proofs.Standing.{own, texts_all-more}
use Rattle.bulk_rewrite.specs.Numbered.{AreHits}
use Rattle.bulk_rewrite.specs.Joining.{Before, NoText, JustText, GapText, gapped, is_gap, is_text, Marked, Lost, At, gives_way, before_rest, Rests, begins_met, joined_rests, kept_rests, behind_mark, gap_of}
use Rattle.bulk_rewrite.specs.Fates.{Fate, Stays, Joins, Drops, fate_of, one_fate, fates, Redone, redone_one, redone, met_front}
use Rattle.bulk_rewrite.proofs.Numbered.{hits-here, hits-below, hits-after}
use Rattle.bulk_rewrite.proofs.Trees.{count-code}

same-redone : (r s : Redone) → r.front ≡ s.front → r.values ≡ s.values → r ≡ s
same-redone r s e f = ap (λ (x : List ℕ). record { front = x; values = r.values }) e ∙ ap (λ (x : List (List ℕ)). record { front = s.front; values = x }) f

abbrev AllDrop : List Fate → Type 0
AllDrop [] = Unit {0}
AllDrop (Drops ∷ xs) = AllDrop xs
AllDrop (Joins ∷ xs) = ⊥
AllDrop (Stays ∷ xs) = ⊥

drop-append : (xs ys : List Fate) → AllDrop xs → AllDrop ys → AllDrop (xs ++ ys)
drop-append [] ys a b = b
drop-append (Drops ∷ xs) ys a b = drop-append xs ys a b
drop-append (Joins ∷ xs) ys a b = absurd a
drop-append (Stays ∷ xs) ys a b = absurd a

-- what is dropped leaves nothing
redone-drops : (xs fs : List Fate) (vs ws : List (List ℕ)) → AllDrop xs → length xs ≡ length vs → redone (xs ++ fs) (vs ++ ws) ≡ redone fs ws
redone-drops [] fs [] ws a e = refl
redone-drops [] fs (v ∷ vs) ws a e = absurd (omega arith)
redone-drops (x ∷ xs) fs [] ws a e = absurd (omega arith)
redone-drops (Drops ∷ xs) fs (v ∷ vs) ws a e = redone-drops xs fs vs ws a (omega arith)
redone-drops (Joins ∷ xs) fs (v ∷ vs) ws a e = absurd a
redone-drops (Stays ∷ xs) fs (v ∷ vs) ws a e = absurd a

-- where nothing behind goes to the text before it, what becomes of values is what becomes of both parts
redone-append : (xs fs : List Fate) (vs ws : List (List ℕ)) → length xs ≡ length vs → (redone fs ws).front ≡ [] → redone (xs ++ fs) (vs ++ ws) ≡ record { front = (redone xs vs).front; values = (redone xs vs).values ++ (redone fs ws).values }
redone-append [] fs [] ws e h = same-redone (redone fs ws) (record { front = []; values = (redone fs ws).values }) h refl
redone-append [] fs (v ∷ vs) ws e h = absurd (omega arith)
redone-append (x ∷ xs) fs [] ws e h = absurd (omega arith)
redone-append (Drops ∷ xs) fs (v ∷ vs) ws e h = redone-append xs fs vs ws (omega arith) h
redone-append (Joins ∷ xs) fs (v ∷ vs) ws e h = ap (redone_one Joins v) (redone-append xs fs vs ws (omega arith) h)
redone-append (Stays ∷ xs) fs (v ∷ vs) ws e h = ap (redone_one Stays v) (redone-append xs fs vs ws (omega arith) h)

length-own : (kind : Kind) (value : List ℕ) (x : Fate) → length (one_fate (has_value kind) x) ≡ length (own kind value)
length-own Document value x = refl
length-own Element value x = refl
length-own Attribute value x = refl
length-own Text value x = refl
length-own Comment value x = refl
length-own Instruction value x = refl

one-drop : (b : Bool) → AllDrop (one_fate b Drops)
one-drop true = tt
one-drop false = tt

front-values : (b : Bool) (name value : List ℕ) (kids ts : Trees) → texts_all kids ≡ [] → texts_all (if b then join_front (node Text name value kids) ts else more (node Text name value kids) ts) ≡ (value ++ (if b then front_text ts else [])) ∷ texts_all (if b then behind_text ts else ts)
front-values true name value kids ts e = texts_all-more Text name (value ++ front_text ts) kids (behind_text ts) ∙ ap (λ xs. (value ++ front_text ts) ∷ (xs ++ texts_all (behind_text ts))) e
front-values false name value kids ts e = texts_all-more Text name value kids ts ∙ ap (λ xs. value ∷ (xs ++ texts_all ts)) e ∙ ap (λ v. v ∷ texts_all ts) (sym (append-nil value))

front-front : (b : Bool) (name value : List ℕ) (kids ts : Trees) → front_text (if b then join_front (node Text name value kids) ts else more (node Text name value kids) ts) ≡ value ++ (if b then front_text ts else [])
front-front true name value kids ts = refl
front-front false name value kids ts = sym (append-nil value)

front-behind : (b : Bool) (name value : List ℕ) (kids ts : Trees) → behind_text (if b then join_front (node Text name value kids) ts else more (node Text name value kids) ts) ≡ (if b then behind_text ts else ts)
front-behind true name value kids ts = refl
front-behind false name value kids ts = refl

-- what values of trees become, behind a mark
abbrev pub redone_of : Before → Rests → Redone
redone_of m ts = record { front = met_front m ts; values = texts_all (behind_mark m ts) }

redone-none : (m : Before) → redone [] [] ≡ redone_of m []
redone-none NoText = refl
redone-none JustText = refl
redone-none GapText = refl

-- a text that stays
stays-text : (m : Before) (gap : Bool) (name value : List ℕ) (ts : Rests) → is_gap m ≡ false → redone_one Stays value (redone_of JustText ts) ≡ redone_of m ((gap_of m gap, node Text name value none) ∷ ts)
stays-text NoText gap name value ts e = same-redone _ _ refl (sym (front-values (begins_met ts) name value none (joined_rests ts) refl))
stays-text JustText gap name value ts e = same-redone _ _ refl (sym (front-values (begins_met ts) name value none (joined_rests ts) refl))
stays-text GapText gap name value ts e = absurd (cc)

-- a text that meets the text before it
joins-text : (name value : List ℕ) (kids : Trees) (ts : Rests) → redone_one Joins value (redone_of JustText ts) ≡ redone_of GapText ((true, node Text name value kids) ∷ ts)
joins-text name value kids ts = same-redone _ _ (sym (front-front (begins_met ts) name value kids (joined_rests ts))) (ap texts_all (sym (front-behind (begins_met ts) name value kids (joined_rests ts))))

-- a node of another kind that is kept
stays-node : (m : Before) (gap : Bool) (kind : Kind) (name value : List ℕ) (kids : Trees) (ts : Rests) → is_text kind ≡ false → redone_of m ((gap_of m gap, node kind name value kids) ∷ ts) ≡ record { front = []; values = own kind value ++ (texts_all kids ++ texts_all (joined_rests ts)) }
stays-node m gap Text name value kids ts e = absurd (cc)
stays-node NoText gap Document name value kids ts e = same-redone _ _ refl (texts_all-more Document name value kids (joined_rests ts))
stays-node JustText gap Document name value kids ts e = same-redone _ _ refl (texts_all-more Document name value kids (joined_rests ts))
stays-node GapText gap Document name value kids ts e = same-redone _ _ refl (texts_all-more Document name value kids (joined_rests ts))
stays-node NoText gap Element name value kids ts e = same-redone _ _ refl (texts_all-more Element name value kids (joined_rests ts))
stays-node JustText gap Element name value kids ts e = same-redone _ _ refl (texts_all-more Element name value kids (joined_rests ts))
stays-node GapText gap Element name value kids ts e = same-redone _ _ refl (texts_all-more Element name value kids (joined_rests ts))
stays-node NoText gap Attribute name value kids ts e = same-redone _ _ refl (texts_all-more Attribute name value kids (joined_rests ts))
stays-node JustText gap Attribute name value kids ts e = same-redone _ _ refl (texts_all-more Attribute name value kids (joined_rests ts))
stays-node GapText gap Attribute name value kids ts e = same-redone _ _ refl (texts_all-more Attribute name value kids (joined_rests ts))
stays-node NoText gap Comment name value kids ts e = same-redone _ _ refl (texts_all-more Comment name value kids (joined_rests ts))
stays-node JustText gap Comment name value kids ts e = same-redone _ _ refl (texts_all-more Comment name value kids (joined_rests ts))
stays-node GapText gap Comment name value kids ts e = same-redone _ _ refl (texts_all-more Comment name value kids (joined_rests ts))
stays-node NoText gap Instruction name value kids ts e = same-redone _ _ refl (texts_all-more Instruction name value kids (joined_rests ts))
stays-node JustText gap Instruction name value kids ts e = same-redone _ _ refl (texts_all-more Instruction name value kids (joined_rests ts))
stays-node GapText gap Instruction name value kids ts e = same-redone _ _ refl (texts_all-more Instruction name value kids (joined_rests ts))

-- its own value, if it has one
stays-own : (kind : Kind) (value : List ℕ) (xs : List Fate) (vs : List (List ℕ)) (r : List (List ℕ)) → redone xs vs ≡ record { front = []; values = r } → redone (one_fate (has_value kind) Stays ++ xs) (own kind value ++ vs) ≡ record { front = []; values = own kind value ++ r }
stays-own Document value xs vs r e = e
stays-own Element value xs vs r e = e
stays-own Attribute value xs vs r e = ap (redone_one Stays value) e ∙ ap (λ v. record { front = []; values = v ∷ r }) (append-nil value)
stays-own Comment value xs vs r e = ap (redone_one Stays value) e ∙ ap (λ v. record { front = []; values = v ∷ r }) (append-nil value)
stays-own Instruction value xs vs r e = ap (redone_one Stays value) e ∙ ap (λ v. record { front = []; values = v ∷ r }) (append-nil value)
stays-own Text value xs vs r e = ap (redone_one Stays value) e ∙ ap (λ v. record { front = []; values = v ∷ r }) (append-nil value)

-- what becomes of the values of a node, of those below it and of those behind it
fates-node : {D : Type 0} (hit : Bool) (m : Before) (gap : Bool) (kind : Kind) (name value : List ℕ) (l : D) (below : Marked D → List Fate) (behind : Before → List Fate) (vs ws : List (List ℕ)) (kids : Trees) (K : Bool → Rests)
    → ((o : Marked D) → length (below o) ≡ length vs) → AllDrop (below Lost) → (is_text kind ≡ true → (vs ≡ []) × (kids ≡ none) × ((o : Marked D) → below o ≡ []))
    → redone (below (At l NoText)) vs ≡ record { front = []; values = texts_all kids } → ((m' : Before) (g : Bool) → redone (behind m') ws ≡ redone_of m' (K (gap_of m' g)))
    → redone (one_fate (has_value kind) (if hit then Drops else (if is_text kind && is_gap m then Joins else Stays)) ++ (below (if gives_way hit (is_text kind) m then Lost else At l NoText) ++ behind (before_rest hit (is_text kind) m))) (own kind value ++ (vs ++ ws))
    ≡ redone_of m (if hit then K true else (gap_of m gap, node kind name value kids) ∷ K false)
fates-node true m gap kind name value l below behind vs ws kids K len lost plain first rest =
    redone-drops (one_fate (has_value kind) Drops) (below Lost ++ behind (gapped m)) (own kind value) (vs ++ ws) (one-drop (has_value kind)) (length-own kind value Drops)
    ∙ redone-drops (below Lost) (behind (gapped m)) vs ws lost (len Lost) ∙ by_mark m
  where
    by_mark : (m : Before) → redone (behind (gapped m)) ws ≡ redone_of m (K true)
    by_mark NoText = rest NoText true
    by_mark JustText = rest GapText true
    by_mark GapText = rest GapText true
fates-node false NoText gap Text name value l below behind vs ws kids K len lost plain first rest =
    let p = plain refl in
    rw (p.2 (At l NoText), p.0, p.1) (ap (redone_one Stays value) (rest JustText false) ∙ stays-text NoText gap name value (K false) refl)
fates-node false JustText gap Text name value l below behind vs ws kids K len lost plain first rest =
    let p = plain refl in
    rw (p.2 (At l NoText), p.0, p.1) (ap (redone_one Stays value) (rest JustText false) ∙ stays-text JustText gap name value (K false) refl)
fates-node false GapText gap Text name value l below behind vs ws kids K len lost plain first rest =
    let p = plain refl in
    rw (p.2 Lost, p.0, p.1) (ap (redone_one Joins value) (rest JustText false) ∙ joins-text name value none (K false))
fates-node false m gap Document name value l below behind vs ws kids K len lost plain first rest =
    let b : Marked _ = At l NoText in
    let j = redone-append (below b) (behind NoText) vs ws (len b) (ap (λ (r : Redone). r.front) (rest NoText false)) in
    let f : redone (below b ++ behind NoText) (vs ++ ws) ≡ record { front = []; values = texts_all kids ++ texts_all (joined_rests (K false)) } = j ∙ same-redone _ _ (ap (λ (r : Redone). r.front) first) (ap (λ (r : Redone). r.values ++ (redone (behind NoText) ws).values) first ∙ ap (λ (r : Redone). texts_all kids ++ r.values) (rest NoText false)) in
    stays-own Document value (below b ++ behind NoText) (vs ++ ws) (texts_all kids ++ texts_all (joined_rests (K false))) f ∙ sym (stays-node m gap Document name value kids (K false) refl)
fates-node false m gap Element name value l below behind vs ws kids K len lost plain first rest =
    let b : Marked _ = At l NoText in
    let j = redone-append (below b) (behind NoText) vs ws (len b) (ap (λ (r : Redone). r.front) (rest NoText false)) in
    let f : redone (below b ++ behind NoText) (vs ++ ws) ≡ record { front = []; values = texts_all kids ++ texts_all (joined_rests (K false)) } = j ∙ same-redone _ _ (ap (λ (r : Redone). r.front) first) (ap (λ (r : Redone). r.values ++ (redone (behind NoText) ws).values) first ∙ ap (λ (r : Redone). texts_all kids ++ r.values) (rest NoText false)) in
    stays-own Element value (below b ++ behind NoText) (vs ++ ws) (texts_all kids ++ texts_all (joined_rests (K false))) f ∙ sym (stays-node m gap Element name value kids (K false) refl)
fates-node false m gap Attribute name value l below behind vs ws kids K len lost plain first rest =
    let b : Marked _ = At l NoText in
    let j = redone-append (below b) (behind NoText) vs ws (len b) (ap (λ (r : Redone). r.front) (rest NoText false)) in
    let f : redone (below b ++ behind NoText) (vs ++ ws) ≡ record { front = []; values = texts_all kids ++ texts_all (joined_rests (K false)) } = j ∙ same-redone _ _ (ap (λ (r : Redone). r.front) first) (ap (λ (r : Redone). r.values ++ (redone (behind NoText) ws).values) first ∙ ap (λ (r : Redone). texts_all kids ++ r.values) (rest NoText false)) in
    stays-own Attribute value (below b ++ behind NoText) (vs ++ ws) (texts_all kids ++ texts_all (joined_rests (K false))) f ∙ sym (stays-node m gap Attribute name value kids (K false) refl)
fates-node false m gap Comment name value l below behind vs ws kids K len lost plain first rest =
    let b : Marked _ = At l NoText in
    let j = redone-append (below b) (behind NoText) vs ws (len b) (ap (λ (r : Redone). r.front) (rest NoText false)) in
    let f : redone (below b ++ behind NoText) (vs ++ ws) ≡ record { front = []; values = texts_all kids ++ texts_all (joined_rests (K false)) } = j ∙ same-redone _ _ (ap (λ (r : Redone). r.front) first) (ap (λ (r : Redone). r.values ++ (redone (behind NoText) ws).values) first ∙ ap (λ (r : Redone). texts_all kids ++ r.values) (rest NoText false)) in
    stays-own Comment value (below b ++ behind NoText) (vs ++ ws) (texts_all kids ++ texts_all (joined_rests (K false))) f ∙ sym (stays-node m gap Comment name value kids (K false) refl)
fates-node false m gap Instruction name value l below behind vs ws kids K len lost plain first rest =
    let b : Marked _ = At l NoText in
    let j = redone-append (below b) (behind NoText) vs ws (len b) (ap (λ (r : Redone). r.front) (rest NoText false)) in
    let f : redone (below b ++ behind NoText) (vs ++ ws) ≡ record { front = []; values = texts_all kids ++ texts_all (joined_rests (K false)) } = j ∙ same-redone _ _ (ap (λ (r : Redone). r.front) first) (ap (λ (r : Redone). r.values ++ (redone (behind NoText) ws).values) first ∙ ap (λ (r : Redone). texts_all kids ++ r.values) (rest NoText false)) in
    stays-own Instruction value (below b ++ behind NoText) (vs ++ ws) (texts_all kids ++ texts_all (joined_rests (K false))) f ∙ sym (stays-node m gap Instruction name value kids (K false) refl)

module _ {S D : Type 0} (A : Algebra S) (W : Downward S D) (states : List S) (names : List (Kind × List ℕ)) (taken valued texts : ℕ → Bool) (values : (f : ℕ) (kind : Kind) (name : List ℕ) → slice_get names f ≡ Some (kind, name) → valued f ≡ has_value kind) (known : (f : ℕ) (kind : Kind) (name : List ℕ) → slice_get names f ≡ Some (kind, name) → texts f ≡ is_text kind) where
  abbrev fates_at : Term → Marked D → List Fate
  fates_at t o = fates A W valued texts t states o

  lost-drops : (t : Term) → AllDrop (fates_at t Lost)
  lost-drops Leaf = tt
  lost-drops (Hole i) = tt
  lost-drops (Node f a b) = drop-append (one_fate (valued f) Drops) (fates_at a Lost ++ fates_at b Lost) (one-drop (valued f)) (drop-append (fates_at a Lost) (fates_at b Lost) (lost-drops a) (lost-drops b))

  -- each value has its fate
  pub length-fates : (ts : Trees) (term : Term) (o : Marked D) → Codes names ts term → length (fates_at term o) ≡ length (texts_all ts)
  length-fates none term o c = rw c refl
  length-fates (more (node kind name value kids) ts) term Lost (f, below, behind, at, cb, cr, e) =
      let a = length-fates kids below Lost cb in
      let b = length-fates ts behind Lost cr in
      let v : length (one_fate (valued f) Drops) ≡ length (own kind value) = rw (values f kind name at) (length-own kind value Drops) in
      rw (e, texts_all-more kind name value kids ts) (omega (arith, v, a, b, length-append (one_fate (valued f) Drops) (fates_at below Lost ++ fates_at behind Lost), length-append (fates_at below Lost) (fates_at behind Lost), length-append (own kind value) (texts_all kids ++ texts_all ts), length-append (texts_all kids) (texts_all ts)))
  length-fates (more (node kind name value kids) ts) term (At d m) (f, below, behind, at, cb, cr, e) =
      let s : Fell D = W.step f d (up A below states) (up A behind states) in
      let l : Marked D = if gives_way s.hit (texts f) m then Lost else At s.left NoText in
      let r : Marked D = At s.right (before_rest s.hit (texts f) m) in
      let x : Fate = fate_of (At d m) s.hit (texts f) in
      let a = length-fates kids below l cb in
      let b = length-fates ts behind r cr in
      let v : length (one_fate (valued f) x) ≡ length (own kind value) = rw (values f kind name at) (length-own kind value x) in
      rw (e, texts_all-more kind name value kids ts) (omega (arith, v, a, b, length-append (one_fate (valued f) x) (fates_at below l ++ fates_at behind r), length-append (fates_at below l) (fates_at behind r), length-append (own kind value) (texts_all kids ++ texts_all ts), length-append (texts_all kids) (texts_all ts)))

  no-kids : (kind : Kind) (kids : Trees) (below : Term) → AreKids kind kids → (n : ℕ) → Codes names kids below → is_text kind ≡ true → (texts_all kids ≡ []) × (joined_rests (kept_rests taken n false kids) ≡ none) × ((o : Marked D) → fates_at below o ≡ [])
  no-kids Text kids below k n c e =
      let l : below ≡ Leaf = rw k at c in
      (ap texts_all k, ap (λ (ts : Trees). joined_rests (kept_rests taken n false ts)) k, λ o. ap (λ t. fates_at t o) l)
  no-kids Document kids below k n c e = absurd (cc)
  no-kids Element kids below k n c e = absurd (cc)
  no-kids Attribute kids below k n c e = absurd (cc)
  no-kids Comment kids below k n c e = absurd (cc)
  no-kids Instruction kids below k n c e = absurd (cc)

  -- the new texts are those of what is left of trees, where texts that meet are one
  pub texts-joined : (ts : Trees) (term : Term) (n : ℕ) (d : D) (m : Before) (gap : Bool) → Codes names ts term → AreHits A W taken n term states d → AreLawfulTrees ts → redone (fates_at term (At d m)) (texts_all ts) ≡ redone_of m (kept_rests taken n (gap_of m gap) ts)
  texts-joined none term n d m gap c h law = rw c (redone-none m)
  texts-joined (more (node kind name value kids) ts) term n d m gap (f, below, behind, at, cb, cr, e) h law =
      let s : Fell D = W.step f d (up A below states) (up A behind states) in
      let h' : AreHits A W taken n (Node f below behind) states d = rw e at h in
      let here : taken n ≡ s.hit = hits-here A W states taken n f below behind d h' in
      let next : ℕ = n + (node_count_all kids + 1) in
      let z : next ≡ suc n + nodes_in below = (let k = count-code names kids below cb in omega arith) in
      let K : Bool → Rests = λ g. kept_rests taken next g ts in
      let inner : Trees = joined_rests (kept_rests taken (suc n) false kids) in
      let rest : (m' : Before) (g : Bool) → redone (fates_at behind (At s.right m')) (texts_all ts) ≡ redone_of m' (K (gap_of m' g)) = λ m' g. rw z (texts-joined ts behind (suc n + nodes_in below) s.right m' g cr (hits-after A W states taken n f below behind d h') law.1) in
      let first : redone (fates_at below (At s.left NoText)) (texts_all kids) ≡ record { front = []; values = texts_all inner } = texts-joined kids below (suc n) s.left NoText false cb (hits-below A W states taken n f below behind d h') law.0.2 in
      let plain = no-kids kind kids below law.0.1 (suc n) cb in
      let found : redone (fates_at (Node f below behind) (At d m)) (own kind value ++ (texts_all kids ++ texts_all ts)) ≡ redone_of m (kept_rests taken n (gap_of m gap) (more (node kind name value kids) ts)) =
      rw (here, values f kind name at, known f kind name at) (fates-node s.hit m gap kind name value s.left (λ o. fates_at below o) (λ b. fates_at behind (At s.right b)) (texts_all kids) (texts_all ts) inner K (λ o. length-fates kids below o cb) (lost-drops below) plain first rest) in
      ap (redone (fates_at term (At d m))) (texts_all-more kind name value kids ts) ∙ ap (λ t. redone (fates_at t (At d m)) (own kind value ++ (texts_all kids ++ texts_all ts))) e ∙ found
