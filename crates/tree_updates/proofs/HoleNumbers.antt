-- How much stands before the node to which a chain leads.
use Rattle.std.proofs.Common.{◌≡◌, ℕ, zero, suc, ◌+◌, ◌<◌, ◌≤◌, List, [], ◌∷◌, ◌++◌, length, get_or, take, drop, Some, refl, ap, sym, ◌∙◌, subst, arith, append_assoc, append-nil}
use Rattle.std.specs.List.{sum_by}
use Rattle.std.proofs.lemmas.List.{length-map, length-take-le}
use Rattle.std.proofs.lemmas.List.Sums.{sum_by-cons, sum_by-append}
use Rattle.rule_arena.specs.Preorder.{AreTerms}
use Rattle.rule_arena.specs.Terms.{Node}
use Rattle.rule_arena.specs.declared.key.Key.{Key}
use Rattle.rule_arena.specs.declared.label.Label.{Label}
use Rattle.rule_arena.specs.declared.label.Label.TheVariants.{Bottom, Symbol, Call, Param}
use Rattle.slt_grammar.specs.Algebras.{meanings, ranks_of, all_meanings}
use Rattle.slt_grammar.specs.Bodies.{CallsBelow, arity, params}
use Rattle.slt_grammar.specs.Grammars.{IsGrammar, body_at, rank_at}
use Rattle.slt_grammar.specs.Keyed.{KeyedRule, key_at, nodes_at, rules_of}
use Rattle.slt_grammar.specs.KeyedEdits.{label_at}
use Rattle.slt_grammar.specs.Segments.{listed, segment, part_of, piece, spread}
use Rattle.slt_grammar.specs.Terms.{Term, Leaf, Node as Branch, Hole, holes_of, term_algebra}
use Rattle.slt_grammar.specs.Tours.{Stop, opened_kids, once_closed, entered}
use Rattle.slt_grammar.specs.declared.level.Level.{Level}
use Rattle.slt_grammar.specs.declared.rules.Rule.{Rule}
use Rattle.slt_grammar.proofs.KeyedLemmas.{body_at-rules_of, key_at-within, length-rules_of}
use Rattle.slt_grammar.proofs.Linear.{all_holes, all_holes-meanings, values-in_order}
use Rattle.slt_grammar.proofs.Meanings.{meanings-whole, params-append}
use Rattle.slt_grammar.proofs.RuleMeanings.{length-all_meanings, rank_at-ranks_of}
use Rattle.slt_grammar.proofs.Spreads.{IsPlain, params-listed}
use Rattle.slt_grammar.proofs.TourLemmas.{params-segment, segment-first}
use Rattle.path_isolation.specs.Chains.{IsChain, Leads, led, meaning_with}
use Rattle.path_isolation.specs.Isolations.{term_around_end}
use Rattle.path_isolation.proofs.ChainLemmas.{inner-leads}
use Rattle.tree_updates.specs.Differences.{hole_at}
use Rattle.tree_updates.specs.Marked.{before_spread, chain_number, kids_meaning, number_before, stops_weight}
use Rattle.tree_updates.proofs.MarkedTours.{behind_spread, body-strung}

-- labels before a rest, without parameters, and how much they weigh
pub record Prefix (w : Label → ℕ) (whole rest : List Label) (n : ℕ) : Type 0 where
  pub front : List Label
  pub split : whole ≡ front ++ rest
  pub none : params front ≡ 0
  pub weight : sum_by w front ≡ n

no-prefix : (w : Label → ℕ) (ls : List Label) → Prefix w ls ls 0
no-prefix w ls = record { front = []; split = refl; none = refl; weight = refl }

prefix-list : (w : Label → ℕ) (xs rest : List Label) → params xs ≡ 0 → Prefix w (xs ++ rest) rest (sum_by w xs)
prefix-list w xs rest e = record { front = xs; split = refl; none = e; weight = refl }

prefix-join : (w : Label → ℕ) (a b c : List Label) (m n : ℕ) → Prefix w a b m → Prefix w b c n → Prefix w a c (m + n)
prefix-join w a b c m n x y = record {
  front = x.front ++ y.front;
  split = x.split ∙ ap (λ ls. x.front ++ ls) y.split ∙ sym (append_assoc x.front y.front c);
  none = omega (arith, params-append x.front y.front, x.none, y.none);
  weight = sum_by-append w x.front y.front ∙ omega (arith, x.weight, y.weight);
}

pub listed-append : (t : Term) (k : List Label) → listed t k ≡ listed t [] ++ k
listed-append Leaf k = refl
listed-append (Hole i) k = refl
listed-append (Branch f a b) k =
    ap (λ ls. Symbol f ∷ ls) (
    listed-append a (listed b k) ∙ ap (λ ls. listed a [] ++ ls) (listed-append b k)
    ∙ sym (append_assoc (listed a []) (listed b []) k) ∙ ap (λ ls. ls ++ k) (sym (listed-append a (listed b [])))
    )

prefix-listed : (w : Label → ℕ) (t : Term) (k : List Label) → holes_of t ≡ [] → Prefix w (listed t k) k (sum_by w (listed t []))
prefix-listed w t k e = record { front = listed t []; split = listed-append t k; none = omega (arith, params-listed t [], ap length e); weight = refl }

pub part-none : (G : List Rule) (l : Label) (i : ℕ) → IsPlain l → params (part_of G l i) ≡ 0
part-none G Param i h = absurd h
part-none G Bottom zero h = refl
part-none G Bottom (suc i) h = refl
part-none G (Symbol f) zero h = refl
part-none G (Symbol f) (suc i) h = refl
part-none G (Call q) i h = params-segment i _

-- stops of nodes that are no parameters
abbrev pub ArePlain : List (Stop Label) → Type 0
ArePlain [] = Unit {0}
ArePlain (m ∷ ms) = IsPlain m.item × ArePlain ms

abbrev pub AreAllPlain : List (List (Stop Label)) → Type 0
AreAllPlain [] = Unit {0}
AreAllPlain (a ∷ afters') = ArePlain a × AreAllPlain afters'

first-plain : (afters : List (List (Stop Label))) → AreAllPlain afters → ArePlain (get_or afters 0 [])
first-plain [] h = tt
first-plain (a ∷ afters') h = h.0

others-plain : (afters : List (List (Stop Label))) → AreAllPlain afters → AreAllPlain (drop 1 afters)
others-plain [] h = tt
others-plain (a ∷ afters') h = h.1

opened-plain : (l : Label) (i n : ℕ) (a : List (Stop Label)) (bs : List (List (Stop Label))) → IsPlain l → ArePlain a → AreAllPlain bs → AreAllPlain (opened_kids l i n a ++ bs)
opened-plain l i zero a bs p h t = t
opened-plain l i (suc zero) a bs p h t = ((p, h), t)
opened-plain l i (suc (suc n)) a bs p h t = ((p, tt), opened-plain l (suc i) (suc n) a bs p h t)

closed-plain : (n : ℕ) (a : List (Stop Label)) → ArePlain a → ArePlain (once_closed n a)
closed-plain zero a h = h
closed-plain (suc n) a h = tt

prefix-spread : (w : Label → ℕ) (G : List Rule) (ms : List (Stop Label)) (rest : List Label) → ArePlain ms → Prefix w (spread (piece G) ms rest) rest (stops_weight w G ms)
prefix-spread w G [] rest h = no-prefix w rest
prefix-spread w G (m ∷ ms) rest h =
    let f : Stop Label → ℕ = λ x. sum_by w (piece G x) in
    let j = prefix-join w (piece G m ++ spread (piece G) ms rest) (spread (piece G) ms rest) rest (sum_by w (piece G m)) (stops_weight w G ms)
    (prefix-list w (piece G m) (spread (piece G) ms rest) (part-none G m.item m.part h.0)) (prefix-spread w G ms rest h.1) in
    subst (Prefix w (spread (piece G) (m ∷ ms) rest) rest) (sym (sum_by-cons f m ms)) j

-- terms without holes
first-closed : (args : List Term) → all_holes args ≡ [] → holes_of (get_or args 0 Leaf) ≡ []
first-closed [] e = refl
first-closed (a ∷ args) e = none (holes_of a) (all_holes args) e
  where
    none : (xs ys : List Term) → xs ++ ys ≡ [] → xs ≡ []
    none [] ys e = refl
    none (x ∷ xs) ys e = absurd (let z : length (x ∷ (xs ++ ys)) ≡ 0 = ap length e in omega (arith, z))

others-closed : (args : List Term) → all_holes args ≡ [] → all_holes (drop 1 args) ≡ []
others-closed [] e = refl
others-closed (a ∷ args) e = none (holes_of a) (all_holes args) e
  where
    none : (xs ys : List Term) → xs ++ ys ≡ [] → ys ≡ []
    none [] ys e = e
    none (x ∷ xs) ys e = absurd (let z : length (x ∷ (xs ++ ys)) ≡ 0 = ap length e in omega (arith, z))

taken-closed : (n : ℕ) (ts : List Term) → all_holes ts ≡ [] → all_holes (take n ts) ≡ []
taken-closed zero ts e = refl
taken-closed (suc n) [] e = refl
taken-closed (suc n) (t ∷ ts) e = ap (λ xs. xs ++ all_holes (take n ts)) (first-closed (t ∷ ts) e) ∙ taken-closed n ts (others-closed (t ∷ ts) e)

module _ (w : Label → ℕ) (G : List Rule) where
  prefix-step : (l : Label) (args : List Term) (afters : List (List (Stop Label))) (p : ℕ) (ls rest : List Label) → IsPlain l → AreAllPlain afters
      → ((afters' : List (List (Stop Label))) → AreAllPlain afters' → Prefix w (before_spread G args afters' p ls rest) rest (number_before w G args afters' p ls))
      → Prefix w (part_of G l 0 ++ spread (piece G) (once_closed (arity (ranks_of G) l) (get_or afters 0 [])) (before_spread G args (entered (arity (ranks_of G)) l afters) p ls rest)) rest
      (sum_by w (part_of G l 0) + (stops_weight w G (once_closed (arity (ranks_of G) l) (get_or afters 0 [])) + number_before w G args (entered (arity (ranks_of G)) l afters) p ls))
  prefix-step l args afters p ls rest pl h ih =
      let n : ℕ = arity (ranks_of G) l in
      let a : List (Stop Label) = get_or afters 0 [] in
      let c : List (Stop Label) = once_closed n a in
      let B : List Label = before_spread G args (entered (arity (ranks_of G)) l afters) p ls rest in
      let f = first-plain afters h in
      prefix-join w (part_of G l 0 ++ spread (piece G) c B) (spread (piece G) c B) rest (sum_by w (part_of G l 0)) _ (prefix-list w (part_of G l 0) (spread (piece G) c B) (part-none G l 0 pl))
      (prefix-join w (spread (piece G) c B) B rest (stops_weight w G c) _ (prefix-spread w G c B (closed-plain n a f))
      (ih (entered (arity (ranks_of G)) l afters) (opened-plain l 1 n a (drop 1 afters) pl f (others-plain afters h))))

  pub prefix-before : (args : List Term) (afters : List (List (Stop Label))) (p : ℕ) (ls rest : List Label) → all_holes args ≡ [] → AreAllPlain afters → Prefix w (before_spread G args afters p ls rest) rest (number_before w G args afters p ls)
  prefix-before args afters zero ls rest e h = no-prefix w rest
  prefix-before args afters (suc p) [] rest e h = no-prefix w rest
  prefix-before args afters (suc p) (Param ∷ ls) rest e h =
      let a : List (Stop Label) = get_or afters 0 [] in
      let B : List Label = before_spread G (drop 1 args) (drop 1 afters) p ls rest in
      prefix-join w (listed (get_or args 0 Leaf) (spread (piece G) a B)) (spread (piece G) a B) rest (sum_by w (listed (get_or args 0 Leaf) [])) _ (prefix-listed w (get_or args 0 Leaf) (spread (piece G) a B) (first-closed args e))
      (prefix-join w (spread (piece G) a B) B rest (stops_weight w G a) _ (prefix-spread w G a B (first-plain afters h)) (prefix-before (drop 1 args) (drop 1 afters) p ls rest (others-closed args e) (others-plain afters h)))
  prefix-before args afters (suc p) (Bottom ∷ ls) rest e h = prefix-step Bottom args afters p ls rest tt h (λ afters' k. prefix-before args afters' p ls rest e k)
  prefix-before args afters (suc p) (Symbol f ∷ ls) rest e h = prefix-step (Symbol f) args afters p ls rest tt h (λ afters' k. prefix-before args afters' p ls rest e k)
  prefix-before args afters (suc p) (Call q ∷ ls) rest e h = prefix-step (Call q) args afters p ls rest tt h (λ afters' k. prefix-before args afters' p ls rest e k)

-- the children of a node without holes in the arguments have none, and they are as many as its label says
pub record AreKids (n : ℕ) (kids : List Term) : Type 0 where
  pub many : length kids ≡ n
  pub closed : all_holes kids ≡ []

here : (G : List Rule) (g : IsGrammar G) (r n : ℕ) (args : List Term) (ls : List Label) → AreTerms (arity (ranks_of G)) (r + n) ls → CallsBelow (length G) ls → length args ≡ params ls → all_holes args ≡ []
    → AreKids r (take r (meanings term_algebra (ranks_of G) (all_meanings term_algebra G) args ls []))
here G g r n args ls t c e z =
    let fs : List (List Term → Term) = all_meanings term_algebra G in
    let ms : List Term = meanings term_algebra (ranks_of G) fs args ls [] in
    let m = meanings-whole term_algebra (ranks_of G) fs (r + n) args ls [] t in
    let c' = subst (λ (k : ℕ). CallsBelow k ls) (sym (length-all_meanings term_algebra G)) c in
    record {
      many = length-take-le r ms (omega (arith, m.1));
      closed = taken-closed r ms (all_holes-meanings (ranks_of G) fs (values-in_order G g) (r + n) ls args t c' e ∙ z);
    }

pub kids-are : (G : List Rule) (g : IsGrammar G) (n : ℕ) (args : List Term) (p : ℕ) (ls : List Label) → AreTerms (arity (ranks_of G)) n ls → CallsBelow (length G) ls → length args ≡ params ls → all_holes args ≡ [] → p < length ls
    → AreKids (arity (ranks_of G) (get_or ls p Bottom)) (kids_meaning term_algebra (ranks_of G) (all_meanings term_algebra G) args p ls [])
kids-are G g n args p [] t c e z h = absurd (omega (arith, h))
kids-are G g zero args p (l ∷ ls) t c e z h = absurd t
kids-are G g (suc n) [] zero (Param ∷ ls) t c e z h = absurd (omega (arith, e))
kids-are G g (suc n) (a ∷ args) zero (Param ∷ ls) t c e z h = record { many = refl; closed = refl }
kids-are G g (suc n) args zero (Bottom ∷ ls) t c e z h = record { many = refl; closed = refl }
kids-are G g (suc n) args zero (Symbol f ∷ ls) t c e z h = here G g 2 n args ls t c e z
kids-are G g (suc n) args zero (Call q ∷ ls) t c e z h = here G g (get_or (ranks_of G) q 0) n args ls t c.1 e z
kids-are G g (suc n) [] (suc p) (Param ∷ ls) t c e z h = absurd (omega (arith, e))
kids-are G g (suc n) (a ∷ args) (suc p) (Param ∷ ls) t c e z h = kids-are G g (0 + n) args p ls t c (omega (arith, e)) (others-closed (a ∷ args) z) (omega (arith, h))
kids-are G g (suc n) args (suc p) (Bottom ∷ ls) t c e z h = kids-are G g (0 + n) args p ls t c e z (omega (arith, h))
kids-are G g (suc n) args (suc p) (Symbol f ∷ ls) t c e z h = kids-are G g (2 + n) args p ls t c e z (omega (arith, h))
kids-are G g (suc n) args (suc p) (Call q ∷ ls) t c e z h = kids-are G g (get_or (ranks_of G) q 0 + n) args p ls t c.1 e z (omega (arith, h))

-- a parameter stands behind so much
abbrev pub Marks : (Label → ℕ) → List Label → ℕ → Type 0
Marks w whole n = (behind : List Label) × Prefix w whole (Param ∷ behind) n

module _ (w : Label → ℕ) (G : List KeyedRule) (g : IsGrammar (rules_of G)) where
  abbrev hole : List Term → Term
  hole = λ _. Hole 0

  -- in a rule over arguments, given what the levels behind it do
  body-marks : (r p : ℕ) (key : Key) (ls : List Level) (ps : List ℕ) (args : List Term) (k : List Label) → key_at G r p ≡ Some key → Leads G (label_at G r p) ls ps → length args ≡ rank_at (rules_of G) r → all_holes args ≡ []
      → ((kids : List Term) (k : List Label) → AreKids (arity (ranks_of (rules_of G)) (label_at G r p)) kids → Marks w (listed (led term_algebra G ls ps (λ _. Hole 0) kids) k) (chain_number w G ls ps kids))
      → Marks w (listed (meaning_with term_algebra (rules_of G) (body_at (rules_of G) r) p (led term_algebra G ls ps (λ _. Hole 0)) args) k)
      (number_before w (rules_of G) args ([] ∷ []) p (body_at (rules_of G) r)
      + chain_number w G ls ps (kids_meaning term_algebra (ranks_of (rules_of G)) (all_meanings term_algebra (rules_of G)) args p (body_at (rules_of G) r) []))
  body-marks r p key ls ps args k there leads many closed ih =
      let R : List Rule = rules_of G in
      let body : List Label = body_at R r in
      let F : List Term → Term = led term_algebra G ls ps (λ _. Hole 0) in
      let kids : List Term = kids_meaning term_algebra (ranks_of R) (all_meanings term_algebra R) args p body [] in
      let v = key_at-within G r p key there in
      let h : r < length R = omega (arith, v.0, length-rules_of G) in
      let L = g.each r h in
      let b : p < length body = omega (arith, v.1, ap length (body_at-rules_of G r), length-map (nodes_at G r) (λ (n : Node). n.label)) in
      let e : length args ≡ params body = many ∙ sym L.linear in
      let c = calls-more r (length R) body (omega (arith, h)) L.earlier in
      let K = kids-are R g 1 args p body L.shaped.term c e closed b in
      let Y : List Label = behind_spread R g F args ([] ∷ []) p body k in
      let s = body-strung R g F args p body k L.shaped.term b (inner-leads G (label_at G r p) ls ps leads) in
      let m = ih kids Y K in (
        m.0,
        subst (λ (x : List Label). Prefix w x (Param ∷ m.0) (number_before w R args ([] ∷ []) p body + chain_number w G ls ps kids)) (sym s)
            (prefix-join w (before_spread R args ([] ∷ []) p body (listed (F kids) Y)) (listed (F kids) Y) (Param ∷ m.0) (number_before w R args ([] ∷ []) p body) (chain_number w G ls ps kids)
            (prefix-before w R args ([] ∷ []) p body (listed (F kids) Y) closed (tt, tt)) m.1),
      )
    where
      calls-more : (m n : ℕ) (ls : List Label) → m ≤ n → CallsBelow m ls → CallsBelow n ls
      calls-more m n [] h c = tt
      calls-more m n (Call q ∷ ls) h c = (omega (arith, h, c.0), calls-more m n ls h c.1)
      calls-more m n (Bottom ∷ ls) h c = calls-more m n ls h c
      calls-more m n (Symbol f ∷ ls) h c = calls-more m n ls h c
      calls-more m n (Param ∷ ls) h c = calls-more m n ls h c

  leads-marks : (l : Label) (ls : List Level) (ps : List ℕ) (kids : List Term) (k : List Label) → Leads G l ls ps → AreKids (arity (ranks_of (rules_of G)) l) kids
      → Marks w (listed (led term_algebra G ls ps (λ _. Hole 0) kids) k) (chain_number w G ls ps kids)
  leads-marks l [] ps kids k h a = (k, record { front = []; split = refl; none = refl; weight = refl })
  leads-marks l (m ∷ ls) [] kids k h a = absurd h
  leads-marks l (m ∷ ls) (p ∷ ps) kids k h a =
      let e : length kids ≡ rank_at (rules_of G) m.rule = a.many ∙ ap (arity (ranks_of (rules_of G))) h.0 ∙ rank_at-ranks_of (rules_of G) m.rule in
      body-marks m.rule p m.key ls ps kids k h.1 h.2 e a.closed (λ ts j b. leads-marks (label_at G m.rule p) ls ps ts j h.2 b)

  -- how much stands before the hole of the term around a chain's end
  pub hole-number : (levels : List Level) (ps : List ℕ) → IsChain G levels ps → hole_at w (term_around_end G levels ps) ≡ chain_number w G levels ps []
  hole-number [] ps c = absurd c
  hole-number (l ∷ ls) [] c = absurd c
  hole-number (l ∷ ls) (p ∷ ps) c =
      let some = g.some in
      let n = length-rules_of G in
      let v = key_at-within G l.rule p l.key c.1 in
      let z : rank_at (rules_of G) l.rule ≡ 0 = (g.each l.rule (omega (arith, v.0, n))).shaped.start (omega (arith, c.0, n)) in
      let m = body-marks l.rule p l.key ls ps [] [] c.1 c.2 (sym z) refl (λ ts j b. leads-marks (label_at G l.rule p) ls ps ts j c.2 b) in
      by (listed (term_around_end G (l ∷ ls) (p ∷ ps)) []) m.0 (chain_number w G (l ∷ ls) (p ∷ ps) []) m.1
    where
      by : (whole behind : List Label) (n : ℕ) → Prefix w whole (Param ∷ behind) n → sum_by w (segment 0 whole) ≡ n
      by whole behind n P =
          ap (λ ls. sum_by w (segment 0 ls)) P.split ∙ ap (sum_by w) (segment-first P.front (Param ∷ behind) P.none ∙ append-nil P.front) ∙ P.weight
