-- No law: the answers of the tokenizer's and the parser's functions, step by step (own). `Tokens` and `Grammar` are the law.
pub mod Parser
pub mod Tokenizer
