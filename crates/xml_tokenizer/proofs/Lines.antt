-- Raw bytes, a line end or a line at a time.
use Rattle.std.proofs.Common.{◌≡◌, ℕ, ◌+◌, ◌-◌, ◌<◌, Bool, true, false, List, [], ◌∷◌, ◌++◌, length, take, get_or, ◌⊎◌, inl, inr, refl, ap, sym, ◌∙◌, subst, append_assoc, append-nil, length-append, arith}
use Rattle.std.specs.Prelude.{◌==◌, not, Option, Some, Result, Ok, Err, OnOk}
use Rattle.std.specs.List.{list_all}
use Rattle.xml_tokens.specs.Cutting.{front, back, is_other}
use Rattle.xml_tokens.specs.Tokens.{Token}
use Rattle.xml_tokenizer.specs.LineEnds.{ends_in_return, is_dropped, begins_dropped, Become}
use Rattle.xml_tokenizer.specs.Standing.{HasRead, Holds, Stands, GoesOn, BreaksAt, Advances, Breaks, ReadsPiece}
use Rattle.xml_tokenizer.specs.declared.tokenizer.Tokenizer.{Tokenizer}
use Rattle.xml_tokens.proofs.Lists.{front-back, list_all-front, take-front, same_number}
use Rattle.xml_tokenizer.proofs.LineEndLaws.{return-append, become_same, ends_in_other}
use Rattle.xml_tokenizer.proofs.Takings.{taken_then}
use Rattle.xml_tokenizer.proofs.Reading.{dropped_idle, dropped_busy}
use Rattle.xml_tokenizer.proofs.Breaking.{breaks_then, breaks_further}

-- bytes without #xD, of which there are some, do not end in one
ends_plain : (b : Bool) (s : List ℕ) → 0 < length s → list_all (is_other 13) s ≡ true → ends_in_return b s ≡ false
ends_plain b [] n e = absurd (omega arith)
ends_plain b (c ∷ s) n e = ends_in_other b c s e

not_dropped : (b : Bool) → is_dropped b 13 ≡ false
not_dropped true = refl
not_dropped false = refl

-- a #xD becomes a #xA
return_becomes : (b : Bool) → Become b (13 ∷ []) (10 ∷ [])
return_becomes b = (not_dropped b, refl, tt)

-- the bytes in front of the first #xD, of which there are some, none of them dropped
pub record Segment (piece left : List ℕ) (after_return : Bool) : Type 0 where
  pub whole : piece ≡ take (length piece - length left) piece ++ left
  pub plain : list_all (is_other 13) (take (length piece - length left) piece) ≡ true
  pub first : begins_dropped after_return (take (length piece - length left) piece) ≡ false
  pub some : 0 < length (take (length piece - length left) piece)
  pub shorter : length left < length piece

differs : (c k : ℕ) → (c ≡ k → ⊥) → (c == k) ≡ false
differs c k n = by (c == k) refl where
  by : (b : Bool) → (c == k) ≡ b → b ≡ false
  by true e = absurd (n (same_number c k e))
  by false e = refl

pub segment_of : (piece left : List ℕ) (after_return : Bool) → left ≡ back (is_other 13) piece → 0 < length piece → (get_or piece 0 0 ≡ 13 → ⊥)
    → ((after_return ≡ true) × (get_or piece 0 0 ≡ 10 → ⊥)) ⊎ (after_return ≡ false) → Segment piece left after_return
segment_of [] left b e n other first = absurd (omega arith)
segment_of (c ∷ cs) left b e n other first =
    let p = is_other 13 in
    let passes : p c ≡ true = ap not (differs c 13 other) in
    let begins : front p (c ∷ cs) ≡ c ∷ front p cs = rw passes refl in
    let cut : take (length (c ∷ cs) - length left) (c ∷ cs) ≡ front p (c ∷ cs) = ap (λ z. take (length (c ∷ cs) - length z) (c ∷ cs)) e ∙ take-front p (c ∷ cs) in
    let whole : c ∷ cs ≡ take (length (c ∷ cs) - length left) (c ∷ cs) ++ left =
    sym (front-back p (c ∷ cs)) ∙ ap (λ z. front p (c ∷ cs) ++ z) (sym e) ∙ ap (λ z. z ++ left) (sym cut) in
    let some : 0 < length (take (length (c ∷ cs) - length left) (c ∷ cs)) = omega (arith, ap length (cut ∙ begins)) in
    record {
      whole = whole;
      plain = ap (list_all p) cut ∙ list_all-front p (c ∷ cs);
      first = ap (begins_dropped b) (cut ∙ begins) ∙ kept first;
      some = some;
      shorter = omega (arith, ap length whole, length-append (take (length (c ∷ cs) - length left) (c ∷ cs)) left, some);
    } where
      kept : ((b ≡ true) × (c ≡ 10 → ⊥)) ⊎ (b ≡ false) → is_dropped b c ≡ false
      kept (inl (t, d)) = rw (t, differs c 10 d) refl
      kept (inr f) = rw f refl

module _ {State : Type 0} (step : State → Token → Option State) where
  -- nothing was read
  pub reads_none : (t : Tokenizer) (now : State) (piece : List ℕ) → ReadsPiece step t t now now piece piece
  reads_none t now piece = record {
    front = [];
    whole = refl;
    counts = refl;
    goes = λ tokens fed s. record {
      more = [];
      took = refl;
      holds = subst (λ z. Stands t z (fed ++ [])) (sym (append-nil tokens)) (subst (Stands t tokens) (sym (append-nil fed)) s);
    };
  }

  module _ (old mid : Tokenizer) (now between : State) (piece rest : List ℕ) (a : ReadsPiece step old mid now between piece rest) where
    -- and then more
    pub reads_on : (new : Tokenizer) (next : State) (after : List ℕ) → ReadsPiece step mid new between next rest after → ReadsPiece step old new now next piece after
    reads_on new next after b = record {
      front = a.front ++ b.front;
      whole = a.whole ∙ ap (λ z. a.front ++ z) b.whole ∙ sym (append_assoc a.front b.front after);
      counts = omega (arith, a.counts, b.counts);
      goes = λ tokens fed s.
          let first = a.goes tokens fed s in
          let second = b.goes (tokens ++ first.more) (fed ++ a.front) first.holds in
          record {
            more = first.more ++ second.more;
            took = taken_then step first.more second.more now between (Some next) first.took second.took;
            holds = subst (λ z. Stands new z (fed ++ (a.front ++ b.front))) (append_assoc tokens first.more second.more)
                (subst (Stands new ((tokens ++ first.more) ++ second.more)) (append_assoc fed a.front b.front) second.holds);
          };
    }

    -- and then they break
    pub reads_break : (at : ℕ) → ((tokens : List Token) (fed : List ℕ) → Stands mid tokens fed → BreaksAt step between tokens (fed ++ rest) at)
        → (tokens : List Token) (fed : List ℕ) → Stands old tokens fed → BreaksAt step now tokens (fed ++ piece) at
    reads_break at h tokens fed s =
        let first = a.goes tokens fed s in
        subst (λ z. BreaksAt step now tokens z at) (append_assoc fed a.front rest ∙ ap (λ z. fed ++ z) (sym a.whole))
        (breaks_then step now between tokens first.more ((fed ++ a.front) ++ rest) at first.took (h (tokens ++ first.more) (fed ++ a.front) first.holds))

    -- all was read
    pub reads_all : rest ≡ [] → ReadsPiece step old mid now between piece []
    reads_all e = subst (ReadsPiece step old mid now between piece) e a

  pub goes_all : (old new : Tokenizer) (now next : State) (piece : List ℕ) → ReadsPiece step old new now next piece [] → (tokens : List Token) (fed : List ℕ) → Stands old tokens fed
      → GoesOn step (λ ts. Stands new ts (fed ++ piece)) now next tokens
  goes_all old new now next piece a tokens fed s =
      let on = a.goes tokens fed s in
      record { more = on.more; took = on.took; holds = subst (λ z. Stands new (tokens ++ on.more) (fed ++ z)) (sym (a.whole ∙ append-nil a.front)) on.holds }

  module _ (old : Tokenizer) (now : State) (piece left : List ℕ) where
    -- bytes without #xD
    module _ (segment : List ℕ) (whole : piece ≡ segment ++ left) (plain : list_all (is_other 13) segment ≡ true) (first : begins_dropped old.after_return segment ≡ false) where
      same_bytes : (tokens : List Token) (fed : List ℕ) → Stands old tokens fed → Become (ends_in_return false fed) segment segment
      same_bytes tokens fed s = become_same (ends_in_return false fed) segment plain (subst (λ z. begins_dropped z segment ≡ false) s.returned first)

      pub reads_segment : (mid new : Tokenizer) (next : State) → 0 < length segment → Advances step old mid now next segment [] → ((ts : List Token) (z : List ℕ) → Holds mid ts z → Holds new ts z)
          → new.count ≡ mid.count → new.after_return ≡ false → ReadsPiece step old new now next piece left
      reads_segment mid new next some a same c r = record {
        front = segment;
        whole = whole;
        counts = omega (arith, a.counts, c, ap length whole, length-append segment left);
        goes = λ tokens fed s.
            let on = a.goes tokens fed segment (subst (Become (ends_in_return false fed) segment) (a.whole ∙ append-nil a.front) (same_bytes tokens fed s)) s.read in
            record {
              more = on.more;
              took = on.took;
              holds = record {
                read = same (tokens ++ on.more) (fed ++ segment) on.holds;
                returned = r ∙ sym (return-append false fed segment ∙ ends_plain (ends_in_return false fed) segment some plain);
              };
            };
      }

      pub segment_breaks : (at : ℕ) → Breaks step old at now segment → (tokens : List Token) (fed : List ℕ) → Stands old tokens fed → BreaksAt step now tokens (fed ++ piece) at
      segment_breaks at b tokens fed s =
          subst (λ z. BreaksAt step now tokens z at) (append_assoc fed segment left ∙ ap (λ z. fed ++ z) (sym whole))
          (breaks_further step now tokens (fed ++ segment) left at (b tokens fed segment (same_bytes tokens fed s) s.read))

    -- a #xD
    module _ (whole : piece ≡ 13 ∷ left) where
      pub reads_return : (mid new : Tokenizer) (next : State) → Advances step old mid now next (10 ∷ []) [] → ((ts : List Token) (z : List ℕ) → Holds mid ts z → Holds new ts z)
          → new.count ≡ mid.count → new.after_return ≡ true → ReadsPiece step old new now next piece left
      reads_return mid new next a same c r = record {
        front = 13 ∷ [];
        whole = whole;
        counts = omega (arith, a.counts, c, ap length whole);
        goes = λ tokens fed s.
            let on = a.goes tokens fed (13 ∷ []) (subst (Become (ends_in_return false fed) (13 ∷ [])) (a.whole ∙ append-nil a.front) (return_becomes (ends_in_return false fed))) s.read in
            record {
              more = on.more;
              took = on.took;
              holds = record { read = same (tokens ++ on.more) (fed ++ 13 ∷ []) on.holds; returned = r ∙ sym (return-append false fed (13 ∷ [])) };
            };
      }

      pub return_breaks : (at : ℕ) → Breaks step old at now (10 ∷ []) → (tokens : List Token) (fed : List ℕ) → Stands old tokens fed → BreaksAt step now tokens (fed ++ piece) at
      return_breaks at b tokens fed s =
          subst (λ z. BreaksAt step now tokens z at) (append_assoc fed (13 ∷ []) left ∙ ap (λ z. fed ++ z) (sym whole))
          (breaks_further step now tokens (fed ++ 13 ∷ []) left at (b tokens fed (13 ∷ []) (return_becomes (ends_in_return false fed)) s.read))

    -- a #xA that belongs to the #xD before it
    pub reads_dropped : (new : Tokenizer) → piece ≡ 10 ∷ left → old.after_return ≡ true → new.held ≡ old.held → new.scan ≡ old.scan → new.after_return ≡ false
        → new.count ≡ old.count + 1 → (old.held.items ≡ [] → new.start ≡ old.count + 1) → (0 < length old.held.items → new.start ≡ old.start) → ReadsPiece step old new now now piece left
    reads_dropped new whole cr h t r c idle busy = record {
      front = 10 ∷ [];
      whole = whole;
      counts = omega (arith, c, ap length whole);
      goes = λ tokens fed s. record {
        more = [];
        took = refl;
        holds = subst (λ z. Stands new z (fed ++ 10 ∷ [])) (sym (append-nil tokens))
            (record { read = read_on tokens fed s old.held.items refl; returned = r ∙ sym (return-append false fed (10 ∷ [])) });
      };
    } where
      moved : (tokens : List Token) (bytes : List ℕ) (start : ℕ) → new.start ≡ start → HasRead old.held.items old.scan (old.count + 1) start tokens bytes → Holds new tokens bytes
      moved tokens bytes start e w =
          subst (λ z. HasRead new.held.items new.scan new.count z tokens bytes) (sym e)
          (subst (λ z. HasRead new.held.items new.scan z start tokens bytes) (sym c)
          (subst (λ z. HasRead new.held.items z (old.count + 1) start tokens bytes) (sym t)
          (subst (λ z. HasRead z.items old.scan (old.count + 1) start tokens bytes) (sym h) w)))

      read_on : (tokens : List Token) (fed : List ℕ) → Stands old tokens fed → (held : List ℕ) → old.held.items ≡ held → Holds new tokens (fed ++ 10 ∷ [])
      read_on tokens fed s [] e =
          moved tokens (fed ++ 10 ∷ []) (old.count + 1) (idle e) (dropped_idle old.held.items old.scan old.count old.start tokens fed s.read (sym s.returned ∙ cr) e)
      read_on tokens fed s (k ∷ held) e =
          let some : 0 < length old.held.items = omega (arith, ap length e) in
          moved tokens (fed ++ 10 ∷ []) old.start (busy some) (dropped_busy old.held.items old.scan old.count old.start tokens fed s.read (sym s.returned ∙ cr) some)

  -- where a piece was read, all of it was
  pub goes_all_ok : (old new : Tokenizer) (now next : State) (piece : List ℕ) {A E : Type 0} (r : Result A E) → OnOk r (ReadsPiece step old new now next piece [])
      → OnOk r ((tokens : List Token) (fed : List ℕ) → Stands old tokens fed → GoesOn step (λ ts. Stands new ts (fed ++ piece)) now next tokens)
  goes_all_ok old new now next piece (Ok x) a = goes_all old new now next piece a
  goes_all_ok old new now next piece (Err e) a = tt
