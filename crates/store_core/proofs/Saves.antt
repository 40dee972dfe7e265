-- Writing a node from its tokens.
use Rattle.std.proofs.Common.{◌≡◌, ℕ, true, ◌+◌, ◌<◌, ◌≤◌, ◌^◌, List, [], ◌∷◌, ◌++◌, length, Option, Some, None, refl, sym, ap, ◌∙◌, append_assoc, append-nil, length-append, arith, subst}
use Rattle.tree_outside.specs.Outside.{Gets, GetsFront}
use Rattle.plain_tree.specs.declared.kind.Kind.{Kind}
use Rattle.value_cursor.specs.declared.cursor.Token.{Token}
use Rattle.xml_nodes.specs.Pen.{Call, Pen, call_text, calls_text, new_pen}
use Rattle.store_core.specs.Saving.{Place, start_place, call_at, place_after, with_call, token_calls, tokens_text, depth_of, text_at, most_text, pen_past, count_past}
use Rattle.store_core.proofs.Rooms.{reserved, token_room}
use Rattle.tree_outside.proofs.Sinks.{Gets-nil, Gets-append, GetsFront-first, GetsFront-after}

-- one call, and then the others
pub calls_text-with_call : (pen : Pen) (call : Option Call) (cs : List Call) → calls_text pen (with_call call cs) ≡ text_at pen call ++ calls_text (pen_past pen call) cs
calls_text-with_call pen None cs = refl
calls_text-with_call pen (Some call) cs = refl

-- The tokens before these were written, and these give the other bytes.
pub record IsWriting (names : List (Kind × List ℕ)) (texts : List (List ℕ)) (all left : List Token) (place : Place) (pen : Pen) (count : ℕ) (before now : Option (List ℕ)) : Type 0 where
  pub done : List ℕ
  pub got : Gets before now done
  pub whole : done ++ calls_text pen (token_calls names place left) ≡ tokens_text names texts all
  pub room : length done + reserved names place left ≤ reserved names (start_place texts) all
  pub counts : reserved names (start_place texts) all < 2 ^ 128 → count ≡ length done
  pub depth : pen.depth ≡ depth_of names place.outer

-- nothing is written yet
pub writing_begins : (names : List (Kind × List ℕ)) (texts : List (List ℕ)) (all : List Token) (got : Option (List ℕ)) → IsWriting names texts all all (start_place texts) (new_pen true) 0 got got
writing_begins names texts all got = record {
  done = [];
  got = Gets-nil got;
  whole = refl;
  room = omega arith;
  counts = λ fits. refl;
  depth = refl;
}

count-past : (count : ℕ) (pen : Pen) (call : Option Call) (done : List ℕ) → count ≡ length done → count + length (text_at pen call) < 2 ^ 128 → count_past count pen call ≡ length (done ++ text_at pen call)
count-past count pen None done same small = rw (append-nil done) same
count-past count pen (Some call) done same small = omega (arith, length-append done (call_text pen call))

module _ (names : List (Kind × List ℕ)) (texts : List (List ℕ)) (all : List Token) (before : Option (List ℕ)) where
  -- what a token gives, and then the others
  split_text : (left rest : List Token) (t : Token) (place : Place) (pen : Pen) → left ≡ t ∷ rest
      → calls_text pen (token_calls names place left) ≡ text_at pen (call_at names place t) ++ calls_text (pen_past pen (call_at names place t)) (token_calls names (place_after names place t) rest)
  split_text left rest t place pen is =
      rw is (calls_text-with_call pen (call_at names place t) (token_calls names (place_after names place t) rest))

  -- one token more
  pub writing_goes :
      (left rest : List Token) (t : Token) (place later : Place) (pen : Pen) (count : ℕ) (mid now : Option (List ℕ))
      → IsWriting names texts all left place pen count before mid → left ≡ t ∷ rest
      → Gets mid now (text_at pen (call_at names place t)) → length (text_at pen (call_at names place t)) ≤ most_text (call_at names place t)
      → later ≡ place_after names place t → (pen_past pen (call_at names place t)).depth ≡ depth_of names later.outer
      → IsWriting names texts all rest later (pen_past pen (call_at names place t)) (count_past count pen (call_at names place t)) before now
  writing_goes left rest t place later pen count mid now w is got short after depth =
      let call = call_at names place t in
      let text = text_at pen call in
      let before_room : length w.done + reserved names place (t ∷ rest) ≤ reserved names (start_place texts) all = rw is at w.room in
      let room : length w.done + length text + reserved names (place_after names place t) rest ≤ reserved names (start_place texts) all = omega (arith, token_room names place t rest, short, before_room) in record {
        done = w.done ++ text;
        got = Gets-append before mid now w.done text w.got got;
        whole =
            rw after
            (append_assoc w.done text (calls_text (pen_past pen call) (token_calls names (place_after names place t) rest))
            ∙ ap (λ xs. w.done ++ xs) (sym (split_text left rest t place pen is)) ∙ w.whole);
        room = rw after (omega (arith, room, length-append w.done text));
        counts = λ fits. count-past count pen call w.done (w.counts fits) (omega (arith, room, w.counts fits, fits));
        depth = depth;
      }

  -- a token's call failed
  pub writing_fails : (left rest : List Token) (t : Token) (place : Place) (pen : Pen) (count : ℕ) (mid now : Option (List ℕ))
      → IsWriting names texts all left place pen count before mid → left ≡ t ∷ rest → GetsFront mid now (text_at pen (call_at names place t)) → GetsFront before now (tokens_text names texts all)
  writing_fails left rest t place pen count mid now w is got =
      let call = call_at names place t in
      let later = calls_text (pen_past pen call) (token_calls names (place_after names place t) rest) in
      let whole : w.done ++ (text_at pen call ++ later) ≡ tokens_text names texts all = ap (λ xs. w.done ++ xs) (sym (split_text left rest t place pen is)) ∙ w.whole in
      subst (λ (xs : List ℕ). GetsFront before now xs) whole (GetsFront-after before mid now w.done (text_at pen call ++ later) w.got (GetsFront-first mid now (text_at pen call) later got))

  -- no token is left
  pub writing_ends : (left : List Token) (place : Place) (pen : Pen) (count : ℕ) (now : Option (List ℕ))
      → IsWriting names texts all left place pen count before now → left ≡ [] → Gets before now (tokens_text names texts all) × (reserved names (start_place texts) all < 2 ^ 128 → count ≡ length (tokens_text names texts all))
  writing_ends left place pen count now w none =
      let whole : w.done ≡ tokens_text names texts all = sym (append-nil w.done) ∙ rw none at w.whole in
      (rw (← whole) w.got, λ fits. w.counts fits ∙ ap length whole)
