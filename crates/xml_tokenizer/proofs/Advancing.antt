-- From a tokenizer to the next, a step at a time.
use Rattle.std.proofs.Common.{◌≡◌, ℕ, ◌+◌, ◌-◌, ◌≤◌, false, List, [], ◌∷◌, ◌++◌, length, take, refl, ap, sym, ◌∙◌, subst, append_assoc, append-nil, length-append, arith}
use Rattle.std.specs.Prelude.{Option, Some, None, Result, Err}
use Rattle.std.specs.Str.{chars}
use lib.Utf8.{encode, encodes}
use Rattle.xml_tokens.specs.Cutting.{Begins}
use Rattle.xml_tokens.specs.Tokens.{Token, Character, IsToken, AreTokens}
use Rattle.xml_tokenizer.specs.LineEnds.{ends_in_return, Become}
use Rattle.xml_tokenizer.specs.Scanning.{scanned}
use Rattle.xml_tokenizer.specs.Ends.{Dies}
use Rattle.xml_tokenizer.specs.Runs.{IsRun, characters}
use Rattle.xml_tokenizer.specs.Taking.{taken, Takes, RefusesRun}
use Rattle.xml_tokenizer.specs.Standing.{HasRead, Holds, GoesOn, BreaksAt, Advances, Breaks}
use Rattle.xml_tokenizer.specs.declared.scan.Scan.TheVariants.{Idle}
use Rattle.xml_tokenizer.specs.declared.scan.Step.TheVariants.{On, Whole}
use Rattle.xml_tokenizer.specs.declared.tokenizer.Tokenizer.{Tokenizer}
use Rattle.xml_tokenizer.proofs.LineEndLaws.{return-append, become_split}
use Rattle.xml_tokenizer.proofs.Takings.{taken_then, taken_one}
use Rattle.xml_tokenizer.proofs.RunLaws.{characters_are_tokens, parted}
use Rattle.xml_tokenizer.proofs.WholeScans.{scans}
use Rattle.xml_tokens.proofs.TokenLaws.{one_token}
use Rattle.xml_tokenizer.proofs.Reading.{read_more, read_tokens}
use Rattle.xml_tokenizer.proofs.Breaking.{breaks_dead, breaks_whole, breaks_then, front_length}

module _ {State : Type 0} (step : State → Token → Option State) where
  -- nothing was taken
  pub advances_none : (t : Tokenizer) (now : State) (bytes : List ℕ) → Advances step t t now now bytes bytes
  advances_none t now bytes = record { front = []; whole = refl; counts = refl; goes = λ tokens fed raw g h. go tokens fed raw g h } where
    go : (tokens : List Token) (fed raw : List ℕ) → Become (ends_in_return false fed) raw [] → Holds t tokens fed → GoesOn step (λ ts. Holds t ts (fed ++ raw)) now now tokens
    go tokens fed [] g h = record {
      more = [];
      took = refl;
      holds = subst (λ z. Holds t z (fed ++ [])) (sym (append-nil tokens)) (subst (Holds t tokens) (sym (append-nil fed)) h);
    }
    go tokens fed (k ∷ raw) g h = absurd g

  module _ (old mid : Tokenizer) (now between : State) (bytes rest : List ℕ) (a : Advances step old mid now between bytes rest) where
    -- and then more
    pub advances_on : (new : Tokenizer) (next : State) (after : List ℕ) → Advances step mid new between next rest after → Advances step old new now next bytes after
    advances_on new next after b = record {
      front = a.front ++ b.front;
      whole = a.whole ∙ ap (λ z. a.front ++ z) b.whole ∙ sym (append_assoc a.front b.front after);
      counts = omega (arith, a.counts, b.counts);
      goes = λ tokens fed raw g h.
          let s = become_split (ends_in_return false fed) raw a.front b.front g in
          let first = a.goes tokens fed s.first s.before h in
          let second = b.goes (tokens ++ first.more) (fed ++ s.first) s.second
          (subst (λ z. Become z s.second b.front) (sym (return-append false fed s.first)) s.after) first.holds in
          record {
            more = first.more ++ second.more;
            took = taken_then step first.more second.more now between (Some next) first.took second.took;
            holds = subst (λ z. Holds new z (fed ++ raw)) (append_assoc tokens first.more second.more)
                (subst (Holds new ((tokens ++ first.more) ++ second.more)) (append_assoc fed s.first s.second ∙ ap (λ z. fed ++ z) (sym s.whole)) second.holds);
          };
    }

    -- and then they break
    pub advances_break : (at : ℕ) → Breaks step mid at between rest → Breaks step old at now bytes
    advances_break at b tokens fed raw g h =
        let s = become_split (ends_in_return false fed) raw a.front rest (subst (Become (ends_in_return false fed) raw) a.whole g) in
        let first = a.goes tokens fed s.first s.before h in
        let broken = b (tokens ++ first.more) (fed ++ s.first) s.second (subst (λ z. Become z s.second rest) (sym (return-append false fed s.first)) s.after) first.holds in
        subst (λ z. BreaksAt step now tokens z at) (append_assoc fed s.first s.second ∙ ap (λ z. fed ++ z) (sym s.whole))
        (breaks_then step now between tokens first.more ((fed ++ s.first) ++ s.second) at first.took broken)

  -- one step, from a state
  module _ (old : Tokenizer) (now : State) (rest : List ℕ) where
    -- bytes at which the token goes on
    pub advances_more : (new : Tokenizer) → scanned (On old.scan) rest ≡ On new.scan → new.held.items ≡ old.held.items ++ rest → new.count ≡ old.count + length rest
        → new.start ≡ old.start → Advances step old new now now rest []
    advances_more new came is c s = record {
      front = rest;
      whole = sym (append-nil rest);
      counts = omega (arith, c);
      goes = λ tokens fed raw g h. record {
        more = [];
        took = refl;
        holds = subst (λ z. Holds new z (fed ++ raw)) (sym (append-nil tokens))
            (subst (λ z. HasRead z new.scan new.count new.start tokens (fed ++ raw)) (sym is)
            (subst (λ z. HasRead (old.held.items ++ rest) new.scan z new.start tokens (fed ++ raw)) (sym c)
            (subst (λ z. HasRead (old.held.items ++ rest) new.scan (old.count + length rest) z tokens (fed ++ raw)) (sym s)
            (read_more old.held.items old.scan old.count old.start tokens fed h raw rest g new.scan came))));
      };
    }

    -- bytes that make those held whole tokens
    pub advances_tokens : (new : Tokenizer) (next : State) (text after : List ℕ) (more : List Token) → rest ≡ text ++ after → AreTokens more (old.held.items ++ text) []
        → taken step now more ≡ Some next → new.held.items ≡ [] → new.scan ≡ Idle → new.count ≡ old.count + length text → new.start ≡ old.count + length text
        → Advances step old new now next rest after
    advances_tokens new next text after more w are took is idle c s = record {
      front = text;
      whole = w;
      counts = omega (arith, c, ap length w, length-append text after);
      goes = λ tokens fed raw g h. record {
        more = more;
        took = took;
        holds = subst (λ z. HasRead z new.scan new.count new.start (tokens ++ more) (fed ++ raw)) (sym is)
            (subst (λ z. HasRead [] z new.count new.start (tokens ++ more) (fed ++ raw)) (sym idle)
            (subst (λ z. HasRead [] Idle z new.start (tokens ++ more) (fed ++ raw)) (sym c)
            (subst (λ z. HasRead [] Idle (old.count + length text) z (tokens ++ more) (fed ++ raw)) (sym s)
            (read_tokens old.held.items old.scan old.count old.start tokens fed h raw text g more are))));
      };
    }

    -- of which one is whole
    pub advances_token : (new : Tokenizer) (next : State) (text after : List ℕ) → Begins (λ x. scanned (On old.scan) x ≡ Whole) rest after
        → text ≡ old.held.items ++ take (length rest - length after) rest → Takes step now next text → new.held.items ≡ [] → new.scan ≡ Idle
        → new.count ≡ old.count + (length rest - length after) → new.start ≡ old.count + (length rest - length after) → Advances step old new now next rest after
    advances_token new next text after b e t is idle c s =
        let cut = front_length rest b.text after b.whole in
        let long : length rest - length after ≡ length b.text = omega (arith, ap length b.whole, length-append b.text after) in
        let spelled = subst (IsToken t.token) (e ∙ ap (λ z. old.held.items ++ z) cut) t.spelled in
        advances_tokens new next b.text after (t.token ∷ []) b.whole
        (old.held.items ++ b.text, [], spelled, sym (append-nil (old.held.items ++ b.text)), refl)
        (taken_one step t.token now next t.took) is idle (c ∙ ap (λ z. old.count + z) long) (s ∙ ap (λ z. old.count + z) long)

    -- or a run of them
    pub advances_run : (new : Tokenizer) (next : State) (left : List ℕ) → Begins IsRun rest left → old.held.items ≡ []
        → taken step now (characters (chars (take (length rest - length left) rest))) ≡ Some next → new.held.items ≡ old.held.items → new.scan ≡ Idle
        → new.count ≡ old.count + length (take (length rest - length left) rest) → new.start ≡ old.count + length (take (length rest - length left) rest)
        → Advances step old new now next rest left
    advances_run new next left b none took is idle c s =
        let cut = front_length rest b.text left b.whole in
        let are : AreTokens (characters (chars b.text)) (old.held.items ++ b.text) [] =
        subst (λ z. AreTokens (characters (chars b.text)) z []) (append-nil b.text ∙ ap (λ z. z ++ b.text) (sym none)) (characters_are_tokens b.text [] b.spelled) in
        advances_tokens new next b.text left (characters (chars b.text)) b.whole are
        (ap (λ z. taken step now (characters (chars z))) (sym cut) ∙ took) (is ∙ none) idle (c ∙ ap (λ z. old.count + length z) cut) (s ∙ ap (λ z. old.count + length z) cut)

    -- where the scan dies
    pub dead_breaks : (left : List ℕ) → Dies old.scan rest left → Breaks step old old.start now rest
    dead_breaks left d tokens fed raw g h = breaks_dead step now old.held.items old.scan old.count old.start tokens fed h raw rest left g d

    -- where a whole text is no token that may stand here
    pub token_breaks : (at : ℕ) (text after : List ℕ) → at ≡ old.start → Begins (λ x. scanned (On old.scan) x ≡ Whole) rest after
        → text ≡ old.held.items ++ take (length rest - length after) rest → ((t : Token) → IsToken t text → step now t ≡ None) → Breaks step old at now rest
    token_breaks at text after same b e none tokens fed raw g h =
        subst (BreaksAt step now tokens (fed ++ raw)) (sym same)
        (breaks_whole step now old.held.items old.scan old.count old.start tokens fed h raw b.text after (subst (Become (ends_in_return false fed) raw) b.whole g) b.spelled
        (λ t i. none t (subst (IsToken t) (sym (e ∙ ap (λ z. old.held.items ++ z) (front_length rest b.text after b.whole))) i)))

    -- where a character of a run may not stand
    pub run_breaks : (left : List ℕ) (at start : ℕ) → Begins IsRun rest left → old.held.items ≡ [] → RefusesRun step now (take (length rest - length left) rest) at
        → start ≡ old.count + at → Breaks step old start now rest
    run_breaks left at start b none r is tokens fed raw g h =
        let cut = front_length rest b.text left b.whole in
        let parts = parted b.text r.before r.after r.character b.spelled (ap chars (sym cut) ∙ r.whole) in
        let e1 = encodes r.before in
        let e2 = encode r.character in
        let tail = encodes r.after ++ left in
        let whole : rest ≡ e1 ++ (e2 ++ tail) =
        b.whole ∙ ap (λ z. z ++ left) parts.whole ∙ append_assoc e1 (e2 ++ encodes r.after) left ∙ ap (λ z. e1 ++ z) (append_assoc e2 (encodes r.after) left) in
        let s = become_split (ends_in_return false fed) raw e1 (e2 ++ tail) (subst (Become (ends_in_return false fed) raw) whole g) in
        let are : AreTokens (characters r.before) (old.held.items ++ e1) [] = subst (λ z. AreTokens (characters r.before) (z ++ e1) []) (sym none) parts.tokens in
        let read = read_tokens old.held.items old.scan old.count old.start tokens fed h s.first e1 s.before (characters r.before) are in
        let broken = breaks_whole step r.last [] Idle (old.count + length e1) (old.count + length e1) (tokens ++ characters r.before) (fed ++ s.first) read s.second e2 tail
        (subst (λ z. Become z s.second (e2 ++ tail)) (sym (return-append false fed s.first)) s.after) (scans (Character r.character) e2 parts.spelled)
        (λ t i. ap (step r.last) (one_token t (Character r.character) e2 i parts.spelled) ∙ r.refused) in
        let place : old.count + length e1 ≡ start = ap (λ z. old.count + z) (sym r.begins) ∙ sym is in
        subst (BreaksAt step now tokens (fed ++ raw)) place
        (subst (λ z. BreaksAt step now tokens z (old.count + length e1)) (append_assoc fed s.first s.second ∙ ap (λ z. fed ++ z) (sym s.whole))
        (breaks_then step now r.last tokens (characters r.before) ((fed ++ s.first) ++ s.second) (old.count + length e1) r.took broken))

    -- such a character stands within the run
    pub run_fits : (left : List ℕ) (at : ℕ) → Begins IsRun rest left → RefusesRun step now (take (length rest - length left) rest) at → at ≤ length rest
    run_fits left at b r =
        let cut = front_length rest b.text left b.whole in
        let parts = parted b.text r.before r.after r.character b.spelled (ap chars (sym cut) ∙ r.whole) in
        let inside = encode r.character ++ encodes r.after in
        omega (arith, r.begins, ap length parts.whole, length-append (encodes r.before) inside, ap length b.whole, length-append b.text left)

-- where nothing is held, a token of the bytes themselves

-- an error that is handed on is the error that came
pub err_same : {A E : Type 0} (r : Result A E) (B : Type 0) (a b : E) → r ≡ Err a → (let x : Result B E = Err a in let y : Result B E = Err b in x ≡ y) → r ≡ Err b
err_same r B a b e f =
    let same : a ≡ b = cc in
    e ∙ ap Err same
