-- The laws of a section from what its maps do to states in range: what reading adds is the same for every section.
use Rattle.std.specs.Prelude.{◌≡◌, ℕ, ◌^◌, ◌<◌, Bool, true, cond}
use Rattle.std.proofs.Common.{sym, ap, ◌∙◌}
use Rattle.std.proofs.lemmas.Bool.{cond_both, cond-true}
use Rattle.sections.specs.Meaning.{Laws, Meaning, Reading, read}

-- what is read is in range, and what is in range is read as itself
pub record Kept {A : Type 0} (In : A → Type 0) (read : A → A) : Type 0 where
  pub inside : (a : A) → In (read a)
  pub same : (a : A) → In a → read a ≡ a

-- so it is where the reading is by a test for the range, with a value in range to stand for the others
pub kept : {A : Type 0} (In : A → Type 0) (test : A → Bool) (other : A)
    → ((a : A) → test a ≡ true → In a) → ((a : A) → In a → test a ≡ true) → In other → Kept In (λ a. cond (test a) a other)
kept In test other sound complete there = record {
  inside = λ a. cond_both (test a) a other In (sound a) (λ _. there);
  same = λ a h. cond-true (test a) a other (complete a h);
}

module _ {Params State Map : Type 0} (m : Meaning Params State Map) (InState : State → Type 0) (InMap : Map → Type 0) where
  -- a section by what its maps do to states in range
  pub record Sound (read_map : Map → Map) (moved : Map → State → State) (joined : Map → Map → Map) (word_of : State → ℕ) : Type 0 where
    pub states : Kept InState (read m)
    pub tested : (s : State) → InState s → m.inside s ≡ true
    pub zero_in : InState m.zero
    pub maps : Kept InMap read_map
    pub effect_is : (f : Map) (s : State) → m.effect f s ≡ moved (read_map f) (read m s)
    pub join_is : (f g : Map) → m.join f g ≡ joined (read_map f) (read_map g)
    pub shown_is : (s : State) → m.shown s ≡ word_of (read m s)
    pub moved_in : (f : Map) (s : State) → InMap f → InState s → InState (moved f s)
    pub joined_in : (f g : Map) → InMap f → InMap g → InMap (joined f g)
    pub joined_moved : (f g : Map) (s : State) → InMap f → InMap g → InState s → moved (joined f g) s ≡ moved g (moved f s)
    pub rest_in : InMap m.rest
    pub rest_moved : (s : State) → InState s → moved m.rest s ≡ s
    pub word_in : (p : Params) (x : ℕ) → x < 2 ^ 32 → InMap (m.word p x)
    pub word_moved : (p : Params) (x : ℕ) (s : State) → x < 2 ^ 32 → moved (m.word p x) (read m s) ≡ m.next p s x

  module _ {read_map : Map → Map} {moved : Map → State → State} {joined : Map → Map → Map} {word_of : State → ℕ}
      (h : Sound read_map moved joined word_of) where
    -- a map in range takes a state as it is read
    effect_in : (f : Map) (s : State) → InMap f → m.effect f s ≡ moved f (read m s)
    effect_in f s f_in = h.effect_is f s ∙ ap (λ k. moved k (read m s)) (h.maps.same f f_in)

    read_twice : (s : State) → read m (read m s) ≡ read m s
    read_twice s = h.states.same (read m s) (h.states.inside s)

    -- the first map's effect is in range, so the second map takes it as it is
    join_law : (f g : Map) (s : State) → m.effect (m.join f g) s ≡ m.effect g (m.effect f s)
    join_law f g s =
        let f_in = h.maps.inside f in
        let g_in = h.maps.inside g in
        let s_in = h.states.inside s in
        let both = joined (read_map f) (read_map g) in
        let first = moved (read_map f) (read m s) in
        ap (λ k. m.effect k s) (h.join_is f g)
        ∙ effect_in both s (h.joined_in _ _ f_in g_in)
        ∙ h.joined_moved _ _ _ f_in g_in s_in
        ∙ sym (ap (moved (read_map g)) (h.states.same first (h.moved_in _ _ f_in s_in)))
        ∙ sym (h.effect_is g first)
        ∙ sym (ap (m.effect g) (h.effect_is f s))

    pub laws : Laws m
    laws = record {
      rest_law = λ s. effect_in m.rest s h.rest_in ∙ h.rest_moved (read m s) (h.states.inside s);
      join_law = join_law;
      word_law = λ p x s below. effect_in (m.word p x) s (h.word_in p x below) ∙ h.word_moved p x s below;
    }

    pub reading : Reading m
    reading = record {
      effect_read = λ f s. h.effect_is f (read m s) ∙ ap (moved (read_map f)) (read_twice s) ∙ sym (h.effect_is f s);
      shown_read = λ s. h.shown_is (read m s) ∙ ap word_of (read_twice s) ∙ sym (h.shown_is s);
      zero_inside = h.tested m.zero h.zero_in;
      effect_inside = λ f s. ap m.inside (h.effect_is f s) ∙ h.tested _ (h.moved_in _ _ (h.maps.inside f) (h.states.inside s));
    }
