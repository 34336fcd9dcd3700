-- Marks of a watch, to which it can go back.
use Rattle.std.specs.Prelude.{◌≡◌, length}
use Rattle.search_watch.specs.declared.mark.Mark.{Mark}
use Rattle.search_watch.specs.declared.watch.Watch.{Watch}
use Rattle.search_watch.specs.Noted.{IsNotedSince, no_noted}

-- so many changes were noted
abbrev pub IsMark : Watch → Mark → Type 0
IsMark watch mark = (length watch.literals.trail ≡ mark.literals) × (length watch.differs.trail ≡ mark.differs)

-- each change since then was noted, of the chains of literals and of those of differences
pub record CanGoBack (before now : Watch) : Type 0 where
  pub literals : IsNotedSince before.literals now.literals
  pub differs : IsNotedSince before.differs now.differs

-- no terms, and nothing to take back
abbrev pub no_watch : Watch
no_watch = record { literals = no_noted; differs = no_noted }

-- a watch can go back to itself, and to what one can go back to that it can go back to
pub record GoesBackFurther : Type 0 where
  pub itself : (watch : Watch) → CanGoBack watch watch
  pub further : (first second third : Watch) → CanGoBack first second → CanGoBack second third →
      CanGoBack first third
