use Rattle.std.proofs.Common.{◌≡◌, ◌++◌, map, take}
use Rattle.front_words.proofs.clap_words.push_words.Given as goal

abbrev pub invariant-loop-word : goal.invariant-loop-word
invariant-loop-word l = map (λ w. w.now) l.line.items
    ≡ map (λ w. w.now) l.initial.line.items ++ map (λ w. w.now) (take l.word-index l.words)
