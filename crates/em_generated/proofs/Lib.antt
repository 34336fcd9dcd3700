mod PutsLaws
mod Pieces
mod Lines
