-- What the session lends to a suite is that suite's share, and what comes back is put back in its place.
use Rattle.std.proofs.Common.{◌≡◌, ℕ, ◌+◌, ◌-◌, ◌*◌, ◌≤◌, List, ◌++◌, length, take, drop, set, get_or, Ok, Err, Result, sym, ap, ◌∙◌, arith}
use Rattle.lines.specs.Lines.{LineState}
use Rattle.limits.specs.Limits.{places_each, slots_each, most_writes}
use Rattle.messages.specs.declared.parts.Write.{Write}
use Rattle.refusals.specs.declared.Refusal.{Refusal}
use Rattle.session.proofs.Parts.{part_is, length_part}
use Rattle.session.proofs.Shares.{Sized, There, inside_places, inside_writes}
use Rattle.session.specs.Shares.{Share, nobody, replaced, share_of, with_share, left_at}
use Rattle.session.specs.States.{SuiteState, World, after}
use Rattle.session.specs.Steps.{share_with, world}
use Rattle.session.specs.declared.place.Place.{Place}
use Rattle.std.proofs.lemmas.List.{get_or_default, set-get_or, take-append-drop, drop-drop, take_at}
use Rattle.std.specs.List.{between, refill}

module _ {X : Type 0} (xs : List X) where
  -- a part of a list that is put back as it was
  part_back : (at width : ℕ) → at + width ≤ length xs → replaced xs at (between at (at + width) xs) ≡ xs
  part_back at width inside =
      let behind : at + length (between at (at + width) xs) ≡ at + width = omega (arith, length_part xs at width inside) in
      ap (λ k. take at xs ++ (between at (at + width) xs ++ drop k xs)) behind
      ∙ ap (λ part. take at xs ++ (part ++ drop (at + width) xs)) (part_is xs at width)
      ∙ ap (λ rest. take at xs ++ (take width (drop at xs) ++ rest)) (sym (drop-drop width at xs))
      ∙ ap (λ rest. take at xs ++ rest) (take-append-drop width (drop at xs))
      ∙ take-append-drop at xs

  -- what a vector of fixed room holds after its elements came back
  pub refilled : (ys : List X) → length ys ≡ length xs → refill (length xs) xs ys ≡ ys
  refilled ys long = take_at ys (drop (length ys) xs) (length xs) long

  -- a list with a part of it given back
  pub given_back : (a b at : ℕ) (ys : List X) → a ≡ at → b ≡ length ys → take a xs ++ (ys ++ drop b (drop a xs)) ≡ replaced xs at ys
  given_back a b at ys first size =
      let end : at + b ≡ at + length ys = omega (arith, size) in
      ap (λ k. take k xs ++ (ys ++ drop b (drop k xs))) first
      ∙ ap (λ rest. take at xs ++ (ys ++ rest)) (drop-drop b at xs ∙ ap (λ k. drop k xs) end)

module _ {T : Type 0} (w : World T) (u : ℕ) where
  abbrev each : ℕ
  each = length w.session.nodes * places_each

  abbrev room : ℕ
  room = slots_each * most_writes

  -- two shares with the same parts
  parts : {a a' : SuiteState} {p p' : List (Place T)} {v v' : List (Write T)} → a ≡ a' → p ≡ p' → v ≡ v' → share_with a p v w.line ≡ share_with a' p' v' w.line
  parts a b c = cc

  module _ (sized : Sized w) (there : There w u) where
    -- what is lent is the suite's share
    pub share_lent : (d : SuiteState) (a b k l : ℕ) → a ≡ (u - 1) * each → b ≡ (u - 1) * each + each → k ≡ (u - 1) * room → l ≡ (u - 1) * room + room →
        share_with (get_or w.session.suites (u - 1) d) (between a b w.places) (between k l w.writes) w.line ≡ share_of w u
    share_lent d a b k l a_is b_is k_is l_is =
        parts
        (get_or_default w.session.suites (u - 1) d nobody (omega arith))
        (ap (λ x. between x b w.places) a_is ∙ ap (λ x. between ((u - 1) * each) x w.places) b_is)
        (ap (λ x. between x l w.writes) k_is ∙ ap (λ x. between ((u - 1) * room) x w.writes) l_is)

    -- two worlds with the same parts
    same_world : {a a' : List SuiteState} {p p' : List (Place T)} {v v' : List (Write T)} → a ≡ a' → p ≡ p' → v ≡ v' →
        world (record { nodes = w.session.nodes; suites = a }) p v w.line ≡ world (record { nodes = w.session.nodes; suites = a' }) p' v' w.line
    same_world a b c = cc

    -- the share put back as it was leaves the world as it was
    pub share_back : with_share w u (share_of w u) ≡ w
    share_back =
        same_world
        (set-get_or w.session.suites (u - 1) nobody)
        (part_back w.places ((u - 1) * each) each (inside_places w u sized there))
        (part_back w.writes ((u - 1) * room) room (inside_writes w u sized there))

    -- a share that is what a call leaves, put back, is what the call leaves of the world
    pub left_put : {A : Type 0} (r : Result A Refusal) (leaves : A → Share T → Share T) (sh : Share T) →
        sh ≡ after r (λ a. leaves a (share_of w u)) (share_of w u) → with_share w u sh ≡ left_at r w u leaves
    left_put (Ok a) leaves sh is = ap (with_share w u) is
    left_put (Err why) leaves sh is = ap (with_share w u) is ∙ share_back

    -- what came back is put back in its place
    pub put_back : (nodes : List ℕ) (suites : List SuiteState) (places : List (Place T)) (writes : List (Write T)) (line : LineState)
        (suite : SuiteState) (a b k l : ℕ) (ws : List (Write T)) → nodes ≡ w.session.nodes → suites ≡ set w.session.suites (u - 1) suite →
        places ≡ w.places → a ≡ (u - 1) * each → b ≡ (u - 1) * each + each → writes ≡ take k w.writes ++ (ws ++ drop l (drop k w.writes)) →
        k ≡ (u - 1) * room → l ≡ length ws →
        world (record { nodes = nodes; suites = suites }) places writes line ≡ with_share w u (share_with suite (between a b w.places) ws line)
    put_back nodes suites places writes line suite a b k l ws nodes_is suites_is places_is a_is b_is writes_is k_is l_is =
        let part : between a b w.places ≡ between ((u - 1) * each) ((u - 1) * each + each) w.places =
        ap (λ x. between x b w.places) a_is ∙ ap (λ x. between ((u - 1) * each) x w.places) b_is in
        let places' : places ≡ replaced w.places ((u - 1) * each) (between a b w.places) =
        places_is ∙ sym (part_back w.places ((u - 1) * each) each (inside_places w u sized there)) ∙ ap (replaced w.places ((u - 1) * each)) (sym part) in
        let writes' : writes ≡ replaced w.writes ((u - 1) * room) ws = writes_is ∙ given_back w.writes k l ((u - 1) * room) ws k_is l_is in
        ap (λ x. world (record { nodes = x; suites = suites }) places writes line) nodes_is
        ∙ ap (λ x. world (record { nodes = w.session.nodes; suites = x }) places writes line) suites_is
        ∙ ap (λ x. world (record { nodes = w.session.nodes; suites = set w.session.suites (u - 1) suite }) x writes line) places'
        ∙ ap (λ x. world (record { nodes = w.session.nodes; suites = set w.session.suites (u - 1) suite }) (replaced w.places ((u - 1) * each) (between a b w.places)) x line) writes'

    -- the same where the setting places came back, and the write places were not lent
    pub put_places : (nodes : List ℕ) (suites : List SuiteState) (places : List (Place T)) (suite : SuiteState) (a l : ℕ) (ps : List (Place T)) →
        nodes ≡ w.session.nodes → suites ≡ set w.session.suites (u - 1) suite → places ≡ take a w.places ++ (ps ++ drop l (drop a w.places)) →
        a ≡ (u - 1) * each → l ≡ length ps →
        world (record { nodes = nodes; suites = suites }) places w.writes w.line ≡ with_share w u (share_with suite ps (share_of w u).writes w.line)
    put_places nodes suites places suite a l ps nodes_is suites_is places_is a_is l_is =
        let places' : places ≡ replaced w.places ((u - 1) * each) ps = places_is ∙ given_back w.places a l ((u - 1) * each) ps a_is l_is in
        let writes' : w.writes ≡ replaced w.writes ((u - 1) * room) (share_of w u).writes = sym (part_back w.writes ((u - 1) * room) room (inside_writes w u sized there)) in
        ap (λ x. world (record { nodes = x; suites = suites }) places w.writes w.line) nodes_is
        ∙ ap (λ x. world (record { nodes = w.session.nodes; suites = x }) places w.writes w.line) suites_is
        ∙ ap (λ x. world (record { nodes = w.session.nodes; suites = set w.session.suites (u - 1) suite }) x w.writes w.line) places'
        ∙ ap (λ x. world (record { nodes = w.session.nodes; suites = set w.session.suites (u - 1) suite }) (replaced w.places ((u - 1) * each) ps) x w.line) writes'
