use Rattle.std.proofs.Common.{◌≡◌, ◌+◌, ◌++◌, [], ◌∷◌, ℕ, List, Vec, Contains, map, take, sym, ap, subst, ◌∙◌, refl, true≢false}
use Rattle.std.specs.declared.alloc.Global.{Global}
use Rattle.std.proofs.lemmas.List.{map-append}
use Rattle.match_store.specs.declared.instance.Instance.{Instance}
use Rattle.match_store.specs.Candidates.{AreLeft}
use Rattle.match_store.specs.Instance.{key_of}
use Rattle.match_store.proofs.LeftLemmas.{left_more, left_same}
use Rattle.match_store.proofs.find_new.left_over.Goals.{then-not-has+in_ok-instance+in_ok-push, else-not-has}
use Rattle.match_store.proofs.find_new.left_over.Goals as goal

pub loop-key-preserved : goal.loop-key-preserved
loop-key-preserved c =
    let done = c.args.done.now in
    let candidates = c.args.candidates.now in
    let i = c.loop-key.key-index in
    let key = c.key-item.result in
    let old = c.loop-key.instances.items in
    let is_key = c.as_slice.ensures in
    let now : Vec Instance Global = c.if-not-has.instances in
    let P : List (List ℕ) → Type 0 = λ keys. AreLeft done (take (i + 1) candidates) keys in
    elim c.if-not-has.branch [
      | then-not-has+in_ok-instance+in_ok-push w ↦
          let instance = w.in_ok-instance.instance in
          let items : now.items ≡ old ++ instance ∷ [] = ap (λ (v : Vec Instance Global). v.items) w.instances-is ∙ w.in_ok-push.ensures.items in
          let of_key : key_of instance ≡ key = w.in_ok-instance.ensures ∙ w.as_slice-then-not-has.ensures in
          let keys : map key_of now.items ≡ map key_of old ++ key ∷ [] = ap (map key_of) items ∙ map-append key_of old (instance ∷ []) ∙ ap (λ (k : List ℕ). map key_of old ++ k ∷ []) of_key in
          subst P (sym keys) (left_more done candidates c.requires.in_order i c.loop-key-test.true key key c.key-item.is (map key_of old) c.loop-key.invariant
          (λ is. true≢false (sym (w.if-not-has.ensures.1 (subst (Contains done) (sym is_key) is)))))
      | else-not-has w ↦
          let keys : map key_of now.items ≡ map key_of old = ap (λ (v : Vec Instance Global). map key_of v.items) w.instances-is in
          subst P (sym keys) (left_same done candidates c.requires.in_order i c.loop-key-test.true key key c.key-item.is (map key_of old) c.loop-key.invariant
          (subst (Contains done) is_key (w.if-not-has.ensures.0 refl)))
    ]
