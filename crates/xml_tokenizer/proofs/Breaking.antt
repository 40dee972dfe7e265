-- Where bytes break, and that no tokens follow there.
use Rattle.std.proofs.Common.{◌≡◌, ℕ, ◌-◌, false, List, [], ◌∷◌, ◌++◌, length, take, refl, ap, sym, ◌∙◌, subst, inl, inr, append_assoc, append-nil, length-append, arith}
use Rattle.std.specs.Prelude.{Option, Some, None, ◌==◌}
use Rattle.std.proofs.lemmas.Grind.{common_steps}
use Rattle.xml_tokens.specs.Tokens.{Token, IsToken, AreTokens}
use Rattle.xml_tokenizer.specs.LineEnds.{line_ends, line_ends_after, ends_in_return, is_dropped, line_end_of, Become}
use Rattle.xml_tokenizer.specs.Scanning.{scanned, scan_step}
use Rattle.xml_tokenizer.specs.Ends.{Dies}
use Rattle.xml_tokenizer.specs.Taking.{taken}
use Rattle.xml_tokenizer.specs.Standing.{StandsAt, HasRead, IsBad, BreaksAt, NoneFollow}
use Rattle.xml_tokenizer.specs.declared.scan.Scan.{Scan}
use Rattle.xml_tokenizer.specs.declared.scan.Scan.TheVariants.{Idle}
use Rattle.xml_tokenizer.specs.declared.scan.Step.{Step}
use Rattle.xml_tokenizer.specs.declared.scan.Step.TheVariants.{On, Whole, Dead}
use Rattle.xml_tokenizer.proofs.LineEndLaws.{line_ends-append, return-append, kept_byte, Split, become_split}
use Rattle.xml_tokenizer.proofs.ScanLaws.{then_scanned, one_cut, no_token}
use Rattle.xml_tokenizer.proofs.WholeScans.{scans}
use Rattle.xml_tokenizer.proofs.Cuts.{tokens_more, cut_prefix}
use Rattle.xml_tokenizer.proofs.Takings.{taken_then, none_taken}
use Rattle.xml_tokenizer.proofs.Reading.{stands_more}

-- the last byte of a text that is scanned to its end
record Last (s : Scan) (y : List ℕ) : Type 0 where
  before : List ℕ
  at : Scan
  c : ℕ
  whole : y ≡ before ++ c ∷ []
  came : scanned (On s) before ≡ On at
  ends : scan_step at c ≡ Whole

last_of : (s : Scan) (y : List ℕ) → scanned (On s) y ≡ Whole → Last s y
last_of s [] e = cc
last_of s (c ∷ []) e = record { before = []; at = s; c = c; whole = refl; came = refl; ends = e }
last_of s (c ∷ d ∷ y) e = by (scan_step s c) refl e (λ u f. last_of u (d ∷ y) f) where
  by : (k : Step) → scan_step s c ≡ k → scanned k (d ∷ y) ≡ Whole → ((u : Scan) → scanned (On u) (d ∷ y) ≡ Whole → Last u (d ∷ y)) → Last s (c ∷ d ∷ y)
  by (On u) is f ih =
      let l = ih u f in
      record { before = c ∷ l.before; at = l.at; c = l.c; whole = ap (λ z. c ∷ z) l.whole; came = ap (λ z. scanned z l.before) is ∙ l.came; ends = l.ends }
  by Whole is f ih = cc
  by Dead is f ih = cc

module _ {State : Type 0} (step : State → Token → Option State) (now : State) where
  module _ (held : List ℕ) (scan : Scan) (count start : ℕ) (tokens : List Token) (fed : List ℕ) (h : HasRead held scan count start tokens fed) where
    -- a bad byte behind others
    breaks_at : (x y cs : List ℕ) (c : ℕ) (at : Scan) → Become (ends_in_return false fed) x (y ++ c ∷ cs) → scanned (On scan) y ≡ On at → IsBad step now (held ++ y) at c
        → BreaksAt step now tokens (fed ++ x) start
    breaks_at x y cs c at g came bad =
        let s = become_split (ends_in_return false fed) x y (c ∷ cs) g in
        by s s.second refl s.after where
          by : (s : Split (ends_in_return false fed) x y (c ∷ cs)) (w : List ℕ) → s.second ≡ w → Become (ends_in_return (ends_in_return false fed) s.first) w (c ∷ cs)
              → BreaksAt step now tokens (fed ++ x) start
          by s [] e g = absurd g
          by s (k ∷ ks) e (kept, is, more) =
              let there : fed ++ s.first ≡ h.front ++ (h.raw ++ s.first) = ap (λ z. z ++ s.first) h.whole ∙ append_assoc h.front h.raw s.first in
              let cr : ends_in_return (ends_in_return false fed) s.first ≡ ends_in_return false (h.front ++ (h.raw ++ s.first)) =
              sym (return-append false fed s.first) ∙ ap (ends_in_return false) there in
              record {
                more = [];
                last = now;
                took = refl;
                front = h.front;
                raw = h.raw ++ s.first;
                held = held ++ y;
                scan = at;
                behind = subst (StandsAt h.front (h.raw ++ s.first) (held ++ y) at) (sym (append-nil tokens))
                    (stands_more held scan count start tokens fed h s.first y s.before at came);
                c = k;
                rest = ks;
                whole = ap (λ z. fed ++ z) (s.whole ∙ ap (λ z. s.first ++ z) e) ∙ sym (append_assoc fed s.first (k ∷ ks)) ∙ ap (λ z. z ++ k ∷ ks) there;
                kept = subst (λ z. is_dropped z k ≡ false) cr kept;
                bad = subst (IsBad step now (held ++ y) at) is bad;
                begins = h.begins;
              }

    pub breaks_dead : (x rest left : List ℕ) → Become (ends_in_return false fed) x rest → Dies scan rest left → BreaksAt step now tokens (fed ++ x) start
    breaks_dead x rest left g d =
        breaks_at x d.came.text d.cs d.c d.at (subst (Become (ends_in_return false fed) x) (d.came.whole ∙ ap (λ z. d.came.text ++ z) d.first) g) d.came.spelled (inl d.dead)

    pub breaks_whole : (x y after : List ℕ) → Become (ends_in_return false fed) x (y ++ after) → scanned (On scan) y ≡ Whole
        → ((t : Token) → IsToken t (held ++ y) → step now t ≡ None) → BreaksAt step now tokens (fed ++ x) start
    breaks_whole x y after g w none =
        let l = last_of scan y w in
        let text : (held ++ l.before) ++ l.c ∷ [] ≡ held ++ y = append_assoc held l.before (l.c ∷ []) ∙ ap (λ z. held ++ z) (sym l.whole) in
        breaks_at x l.before after l.c l.at
        (subst (Become (ends_in_return false fed) x) (ap (λ z. z ++ after) l.whole ∙ append_assoc l.before (l.c ∷ []) after) g) l.came
        (inr (l.ends, λ t i. none t (subst (IsToken t) text i)))

  -- bytes that break behind more tokens
  pub breaks_then : (mid : State) (tokens more : List Token) (bytes : List ℕ) (at : ℕ) → taken step now more ≡ Some mid → BreaksAt step mid (tokens ++ more) bytes at
      → BreaksAt step now tokens bytes at
  breaks_then mid tokens more bytes at e b = record {
    more = more ++ b.more;
    last = b.last;
    took = taken_then step more b.more now mid (Some b.last) e b.took;
    front = b.front;
    raw = b.raw;
    held = b.held;
    scan = b.scan;
    behind = subst (StandsAt b.front b.raw b.held b.scan) (append_assoc tokens more b.more) b.behind;
    c = b.c;
    rest = b.rest;
    whole = b.whole;
    kept = b.kept;
    bad = b.bad;
    begins = b.begins;
  }

  pub breaks_further : (tokens : List Token) (bytes more : List ℕ) (at : ℕ) → BreaksAt step now tokens bytes at → BreaksAt step now tokens (bytes ++ more) at
  breaks_further tokens bytes more at b = record {
    more = b.more;
    last = b.last;
    took = b.took;
    front = b.front;
    raw = b.raw;
    held = b.held;
    scan = b.scan;
    behind = b.behind;
    c = b.c;
    rest = b.rest ++ more;
    whole = ap (λ z. z ++ more) b.whole ∙ append_assoc (b.front ++ b.raw) (b.c ∷ b.rest) more;
    kept = b.kept;
    bad = b.bad;
    begins = b.begins;
  }

  -- the first token of what follows a bad byte
  bad_first : (last : State) (held next : List ℕ) (scan : Scan) (c : ℕ) (v : Token) (vs : List Token) → scanned (On Idle) held ≡ On scan → IsBad step last held scan c
      → AreTokens (v ∷ vs) (held ++ c ∷ next) [] → taken step last (v ∷ vs) ≡ None
  bad_first last held next scan c v vs w (inl dead) (x, mid, is, e, others) =
      absurd (no_token (On Idle) held x mid next scan c w dead (scans v x is) (sym e))
  bad_first last held next scan c v vs w (inr (ends, none)) (x, mid, is, e, others) =
      let whole : scanned (On Idle) (held ++ c ∷ []) ≡ Whole = then_scanned (On Idle) (On scan) held (c ∷ []) w ∙ ends in
      let same = one_cut (On Idle) x (held ++ c ∷ []) mid next (scans v x is) whole (sym e ∙ sym (append_assoc held (c ∷ []) next)) in
      none_taken step v vs last (none v (subst (IsToken v) same.0 is))

  bad_tokens : (last : State) (held next : List ℕ) (scan : Scan) (c : ℕ) (vs : List Token) → scanned (On Idle) held ≡ On scan → IsBad step last held scan c
      → AreTokens vs (held ++ c ∷ next) [] → taken step last vs ≡ None
  bad_tokens last held next scan c [] w bad f = absurd (nothing held f) where
    nothing : (h : List ℕ) → h ++ c ∷ next ≡ [] → ⊥
    nothing [] e = cc
    nothing (d ∷ h) e = cc
  bad_tokens last held next scan c (v ∷ vs) w bad f = bad_first last held next scan c v vs w bad f

  append_same : (ts us vs : List Token) → ts ++ us ≡ ts ++ vs → us ≡ vs
  append_same [] us vs e = e
  append_same (t ∷ ts) us vs e = append_same ts us vs (cc)

  pub none_follow : (tokens : List Token) (bytes : List ℕ) (at : ℕ) → BreaksAt step now tokens bytes at → NoneFollow step now tokens bytes
  none_follow tokens bytes at b next more last f e =
      let fed = b.front ++ b.raw in
      let lines : line_ends fed ≡ line_ends b.front ++ b.held = line_ends-append b.front b.raw false ∙ ap (λ z. line_ends b.front ++ z) (sym b.behind.rest) in
      let others = line_ends_after (b.c == 13) (b.rest ++ next) in
      let all : line_ends (bytes ++ next) ≡ line_ends b.front ++ (b.held ++ line_end_of b.c ∷ others) =
      ap (λ z. line_ends (z ++ next)) b.whole ∙ ap line_ends (append_assoc fed (b.c ∷ b.rest) next) ∙ line_ends-append fed (b.c ∷ (b.rest ++ next)) false
      ∙ ap (λ z. line_ends fed ++ z) (kept_byte (ends_in_return false fed) b.c (b.rest ++ next) b.kept)
      ∙ ap (λ z. z ++ line_end_of b.c ∷ others) lines ∙ append_assoc (line_ends b.front) b.held (line_end_of b.c ∷ others) in
      let p = cut_prefix (tokens ++ b.more) (tokens ++ more) (line_ends b.front ++ (b.held ++ line_end_of b.c ∷ others)) (b.held ++ line_end_of b.c ∷ others)
      (tokens_more (tokens ++ b.more) (line_ends b.front) [] (b.held ++ line_end_of b.c ∷ others) b.behind.cut) (subst (λ z. AreTokens (tokens ++ more) z []) all f) in
      let rest : more ≡ b.more ++ p.0 = append_same tokens more (b.more ++ p.0) (p.1 ∙ append_assoc tokens b.more p.0) in
      let none : taken step now more ≡ None = ap (taken step now) rest
      ∙ taken_then step b.more p.0 now b.last None b.took (bad_tokens b.last b.held others b.scan (line_end_of b.c) p.0 b.behind.waits b.bad p.2) in
      some_none last (sym none ∙ e) where
        some_none : (s : State) → ◌≡◌ {A = Option State} None (Some s) → ⊥
        some_none s e = cc

pub front_length : (bytes text after : List ℕ) → bytes ≡ text ++ after → take (length bytes - length after) bytes ≡ text
front_length bytes text after e =
    ap (λ z. take (length z - length after) z) e ∙ front_of text after (length (text ++ after) - length after) (omega (arith, length-append text after)) where
      front_of : (xs ys : List ℕ) (n : ℕ) → n ≡ length xs → take n (xs ++ ys) ≡ xs
      front_of xs ys n e = grind (arith, common_steps)
